-- What the least hits of rules and of the reversed rules say of each rule.
use Rattle.std.proofs.Common.{◌≡◌, ◌≢◌, ◌↔◌, inl, inr, ⊎_elim, ℕ, ◌+◌, ◌-◌, ◌<◌, ◌≤◌, ◌==◌, true, false, List, length, reverse}
use Rattle.std.proofs.Common.{sym, ap, ◌∙◌, subst, arith, if◌then◌else◌}
use Rattle.std.proofs.lemmas.Bool.{cases_Bool, cases_eq, eqb-true, eqb-false, ne_eqb}
use Rattle.std.proofs.lemmas.List.{length-reverse}
use Rattle.names.specs.declared.permissions.Permission.{Permission}
use Rattle.names.specs.declared.kind.RuleKind.{RuleKind}
use Rattle.names.specs.declared.kind.RuleKind.TheVariants.{Allow, Deny}
use Rattle.names.specs.declared.record.LeastHits.{LeastHits}
use Rattle.names.specs.declared.record.Record.{Record}
use Rattle.names.specs.Least.{IsLeastOrNone, hits_of}
use Rattle.names.specs.laws.LeastNumbers.{least_there, least_some, none_least}
use Rattle.rule_globs.specs.Rules.{RuleValue}
use Rattle.rule_globs.specs.Verdict.{Hits, IsAllowed}
use Rattle.rule_globs.specs.laws.PlainLaws.{allowed_by_hits}
use Rattle.glob_automaton.specs.Least.{IsLeastRecord}
use Rattle.rule_influence.specs.Influence.{DecidesFor, IsAllowedWithout, IsLoneHit}
use Rattle.rule_influence.specs.inner.Deciders.{decider, lone_number}
use Rattle.rule_influence.specs.laws.HitLaws.{hits_reversed, lone_decides}

module _ (rules : List RuleValue) (name : List ℕ) (p : Permission) where
  abbrev count : ℕ
  count = length rules

  -- hits have numbers from 1 to the count
  above : (kind : RuleKind) (n : ℕ) → Hits rules kind p name n → (1 ≤ n) × (n ≤ count)
  above kind n h = (h.1.0, h.1.1)

  none_at_zero : (kind : RuleKind) (n : ℕ) → n ≡ 0 → Hits rules kind p name n → ⊥
  none_at_zero kind n e h = omega (arith, e, h.1.0)

  module _ (kind : RuleKind) (least reversed : ℕ) (is : IsLeastOrNone (Hits rules kind p name) least)
      (other : IsLeastOrNone (Hits (reverse rules) kind p name) reversed) where
    -- each hit is one of the reversed rules
    back : (n : ℕ) → Hits rules kind p name n → Hits (reverse rules) kind p name (count + 1 - n)
    back n h =
        let e : count + 1 - (count + 1 - n) ≡ n = omega (arith, h.1.0, h.1.1) in
        (hits_reversed rules kind p name (count + 1 - n) (omega (arith, h.1.1)) (omega (arith, h.1.0))).1
        (subst (Hits rules kind p name) (sym e) h)

    -- the least number of the reversed rules is the greatest of the rules
    pub greatest : (n : ℕ) → Hits rules kind p name n →
        Hits rules kind p name (count + 1 - reversed) × (1 ≤ reversed) × (reversed ≤ count) × (n ≤ count + 1 - reversed)
    greatest n h =
        let there = least_there (Hits (reverse rules) kind p name) reversed (count + 1 - n) other (back n h) in
        let le : reversed ≤ count = omega (arith, there.0.1.1, length-reverse rules) in
        let ge : 1 ≤ reversed = there.0.1.0 in (
          (hits_reversed rules kind p name reversed ge le).0 there.0,
          ge,
          le,
          omega (arith, there.1, h.1.0, h.1.1, le),
        )

    -- where both are one, it is the only hit
    lone : least + reversed ≡ count + 1 → IsLoneHit rules kind p name least
    lone e = ⊎_elim
        (λ none. absurd (
        let past : count < reversed = omega (arith, e, none.0) in
        ⊎_elim
        (λ empty. omega (arith, past, empty.0))
        (λ some. omega (arith, past, some.0.1.1, length-reverse rules))
        other
        ))
        (λ some. (some.0, λ n h. let top = greatest n h in omega (arith, some.1 n h, top.2, top.3, e)))
        is

    -- where they differ, some hit has another number
    another : least + reversed ≢ count + 1 → (n k : ℕ) → Hits rules kind p name n → (m : ℕ) × (Hits rules kind p name m × (m ≢ k))
    another differ n k h =
        let top = greatest n h in
        let low = least_there (Hits rules kind p name) least n is h in
        ⊎_elim
        (λ e. (count + 1 - reversed, (top.0, λ same. differ (omega (arith, e, same, top.2, top.1)))))
        (λ ne. (least, (low.0, ne)))
        (cases_eq least k)

    -- the number that is found is 0 or that of the only hit
    number_lone : lone_number count least reversed ≢ 0 → IsLoneHit rules kind p name (lone_number count least reversed)
    number_lone nonzero = ⊎_elim
        (λ h. subst (IsLoneHit rules kind p name) (sym (ap (λ b. if b then least else 0) h))
        (lone (eqb-true (least + reversed) (count + 1) h)))
        (λ h. absurd (nonzero (ap (λ b. if b then least else 0) h)))
        (cases_Bool (least + reversed == count + 1))

    -- where another number is found than that of a hit, another rule hits
    number_other : (n k : ℕ) → Hits rules kind p name n → lone_number count least reversed ≢ k →
        (m : ℕ) × (Hits rules kind p name m × (m ≢ k))
    number_other n k h ne = ⊎_elim
        (λ e. (
          least,
          (
            (least_there (Hits rules kind p name) least n is h).0,
            λ same. ne (ap (λ b. if b then least else 0) e ∙ same),
          ),
        ))
        (λ e. another (eqb-false (least + reversed) (count + 1) e) n k h)
        (cases_Bool (least + reversed == count + 1))

module _ (rules : List RuleValue) (name : List ℕ) (r q : Record) (least : IsLeastRecord rules name r)
    (other : IsLeastRecord (reverse rules) name q) (p : Permission) where
  abbrev hits : LeastHits
  hits = hits_of r p

  abbrev ends : LeastHits
  ends = hits_of q p

  no_denial : hits.deny ≡ 0 → (n : ℕ) → Hits rules Deny p name n → ⊥
  no_denial e n h = none_at_zero rules name p Deny hits.deny e
      (least_there (Hits rules Deny p name) hits.deny n (least p).1 h).0

  no_allowance : hits.allow ≡ 0 → (n : ℕ) → Hits rules Allow p name n → ⊥
  no_allowance e n h = none_at_zero rules name p Allow hits.allow e
      (least_there (Hits rules Allow p name) hits.allow n (least p).0 h).0

  by_allow : hits.deny == 0 ≡ true → decider (length rules) hits ends ≡ lone_number (length rules) hits.allow ends.allow
  by_allow h = ap (λ b. if b then lone_number (length rules) hits.allow ends.allow
      else if hits.allow == 0 then 0 else lone_number (length rules) hits.deny ends.deny) h

  by_none : hits.deny == 0 ≡ false → hits.allow == 0 ≡ true → decider (length rules) hits ends ≡ 0
  by_none h e = ap (λ b. if b then lone_number (length rules) hits.allow ends.allow
      else if hits.allow == 0 then 0 else lone_number (length rules) hits.deny ends.deny) h
      ∙ ap (λ b. if b then 0 else lone_number (length rules) hits.deny ends.deny) e

  by_deny : hits.deny == 0 ≡ false → hits.allow == 0 ≡ false →
      decider (length rules) hits ends ≡ lone_number (length rules) hits.deny ends.deny
  by_deny h e = ap (λ b. if b then lone_number (length rules) hits.allow ends.allow
      else if hits.allow == 0 then 0 else lone_number (length rules) hits.deny ends.deny) h
      ∙ ap (λ b. if b then 0 else lone_number (length rules) hits.deny ends.deny) e

  -- the rule that is found decides
  pub found_decides : (k : ℕ) → k ≢ 0 → decider (length rules) hits ends ≡ k → DecidesFor rules k p name
  found_decides k nonzero is = (lone_decides rules p name k).1 (⊎_elim
      (λ h.
      let e : lone_number (length rules) hits.allow ends.allow ≡ k = sym (by_allow h) ∙ is in
      inl (
        subst (IsLoneHit rules Allow p name) e
            (number_lone rules name p Allow hits.allow ends.allow (least p).0 (other p).0 (λ z. nonzero (sym e ∙ z))),
        no_denial (eqb-true hits.deny 0 h),
      ))
      (λ h. ⊎_elim
      (λ none. absurd (nonzero (sym is ∙ by_none h none)))
      (λ some.
      let e : lone_number (length rules) hits.deny ends.deny ≡ k = sym (by_deny h some) ∙ is in
      inr (
        subst (IsLoneHit rules Deny p name) e
            (number_lone rules name p Deny hits.deny ends.deny (least p).1 (other p).1 (λ z. nonzero (sym e ∙ z))),
        (
          hits.allow,
          least_some (Hits rules Allow p name) hits.allow (least p).0 (eqb-false hits.allow 0 some),
        ),
      ))
      (cases_Bool (hits.allow == 0)))
      (cases_Bool (hits.deny == 0)))

  -- any other rule doesn't
  module _ (k : ℕ) (differs : decider (length rules) hits ends ≢ k) where
    allowed_still : IsAllowed rules name p → IsAllowedWithout rules k name p
    allowed_still allowed =
        let by = (allowed_by_hits rules name p).0 allowed in
        let none : hits.deny ≡ 0 = none_least (Hits rules Deny p name) hits.deny (least p).1 by.0 in (
          λ n h. by.0 n h.0,
          number_other rules name p Allow hits.allow ends.allow (least p).0 (other p).0 by.1.0 k by.1.1
              (λ e. differs (by_allow (ap (λ z. z == 0) none) ∙ e)),
        )

    allowed_already : IsAllowedWithout rules k name p → IsAllowed rules name p
    allowed_already without = (allowed_by_hits rules name p).1 (
      λ n h.
          let some : hits.deny ≢ 0 = λ e. no_denial e n h in
          let given : hits.allow ≢ 0 = λ e. no_allowance e without.1.0 without.1.1.0 in
          let more = number_other rules name p Deny hits.deny ends.deny (least p).1 (other p).1 n k h
          (λ e. differs (by_deny (ne_eqb hits.deny 0 some) (ne_eqb hits.allow 0 given) ∙ e)) in
          without.0 more.0 more.1,
      (without.1.0, without.1.1.0),
    )

    pub others_idle : IsAllowed rules name p ↔ IsAllowedWithout rules k name p
    others_idle = (allowed_still, allowed_already)
