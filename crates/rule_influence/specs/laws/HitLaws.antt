-- Hits of reversed rules, whether a rule hits, and where a rule decides.
use Rattle.std.proofs.Common.{◌≡◌, ◌≢◌, ◌⊎◌, ◌↔◌, inl, inr, ⊎_elim, ℕ, ◌+◌, ◌-◌, ◌≤◌, false, List, [], length, reverse}
use Rattle.std.proofs.Common.{IsTrue, get_or, refl, sym, ap, ◌∙◌, subst, arith, true≢false}
use Rattle.std.proofs.lemmas.Bool.{cases_Bool, cases_eq, cases_lt}
use Rattle.std.proofs.lemmas.List.{get_or-reverse, get_or_default, length-reverse, reverse-reverse}
use Rattle.names.specs.declared.permissions.Permission.{Permission}
use Rattle.names.specs.declared.kind.RuleKind.{RuleKind}
use Rattle.names.specs.declared.kind.RuleKind.TheVariants.{Allow, Deny}
use Rattle.names.specs.Permissions.{set_of}
use Rattle.rule_globs.specs.Glob.{Takes}
use Rattle.rule_globs.specs.PlainVerdict.{takes}
use Rattle.rule_globs.specs.Rules.{RuleValue, holds, pattern}
use Rattle.rule_globs.specs.Verdict.{Hits, IsAllowed, IsRuleAt}
use Rattle.rule_globs.specs.laws.Cuts.{by_cuts}
use Rattle.rule_globs.specs.laws.PlainLaws.{allowed_by_hits}
use Rattle.rule_influence.specs.Influence.{DecidesFor, IsAllowedWithout, IsLoneHit}

-- a rule that says nothing, used where there is none
pub nothing : RuleValue
nothing = record { kind = Allow; perms = set_of (λ p. false); items = [] }

-- a rule by its number is the one at its place
pub at_place : (rules : List RuleValue) (n : ℕ) (rule : RuleValue) → IsRuleAt rules n rule → rule ≡ get_or rules (n - 1) nothing
at_place rules n rule at = at.2 ∙ get_or_default rules (n - 1) rule nothing (omega (arith, at.0, at.1))

rule_there : (rules : List RuleValue) (n : ℕ) → 1 ≤ n → n ≤ length rules → IsRuleAt rules n (get_or rules (n - 1) nothing)
rule_there rules n ge le = (ge, le, get_or_default rules (n - 1) nothing (get_or rules (n - 1) nothing) (omega (arith, ge, le)))

module _ (rules : List RuleValue) where
  -- the rule with this number in the reverse order
  pub rule_reversed : (n : ℕ) (rule : RuleValue) → IsRuleAt (reverse rules) n rule → IsRuleAt rules (length rules + 1 - n) rule
  rule_reversed n rule at =
      let le : n ≤ length rules = omega (arith, at.1, length-reverse rules) in
      let e : length rules - 1 - (n - 1) ≡ length rules + 1 - n - 1 = omega (arith, at.0, le) in (
        omega (arith, le),
        omega (arith, at.0),
        at.2 ∙ get_or-reverse rules (n - 1) rule (omega (arith, at.0, le)) ∙ ap (λ z. get_or rules z rule) e,
      )

pub rule_back : (rules : List RuleValue) (n : ℕ) (rule : RuleValue) → 1 ≤ n → n ≤ length rules →
    IsRuleAt rules (length rules + 1 - n) rule → IsRuleAt (reverse rules) n rule
rule_back rules n rule ge le at =
    let again : IsRuleAt (reverse (reverse rules)) (length rules + 1 - n) rule =
    subst (λ z. IsRuleAt z (length rules + 1 - n) rule) (sym (reverse-reverse rules)) at in
    let e : length (reverse rules) + 1 - (length rules + 1 - n) ≡ n = omega (arith, ge, le, length-reverse rules) in
    subst (λ z. IsRuleAt (reverse rules) z rule) e (rule_reversed (reverse rules) (length rules + 1 - n) rule again)

pub hits_reversed : (rules : List RuleValue) (kind : RuleKind) (p : Permission) (name : List ℕ) (n : ℕ) → 1 ≤ n → n ≤ length rules →
    Hits (reverse rules) kind p name n ↔ Hits rules kind p name (length rules + 1 - n)
hits_reversed rules kind p name n ge le = (
  λ h. (h.0, rule_reversed rules n h.0 h.1, h.2, h.3, h.4),
  λ h. (h.0, rule_back rules n h.0 ge le h.1, h.2, h.3, h.4),
)

same_kind : (a b : RuleKind) → (a ≡ b) ⊎ (a ≢ b)
same_kind Allow Allow = inl refl
same_kind Allow Deny = inr (λ e. cc (e))
same_kind Deny Allow = inr (λ e. cc (e))
same_kind Deny Deny = inl refl

kinds_differ : Deny ≡ Allow → ⊥
kinds_differ e = cc (e)

module _ (rules : List RuleValue) (p : Permission) (name : List ℕ) where
  -- a rule allows or denies, and not both
  pub one_kind : (n : ℕ) → Hits rules Deny p name n → Hits rules Allow p name n → ⊥
  one_kind n d a =
      kinds_differ (sym d.2 ∙ ap (λ (r : RuleValue). r.kind) (at_place rules n d.0 d.1 ∙ sym (at_place rules n a.0 a.1)) ∙ a.2)

  hits_there : (kind : RuleKind) (n : ℕ) → 1 ≤ n → n ≤ length rules → Hits rules kind p name n ⊎ (Hits rules kind p name n → ⊥)
  hits_there kind n ge le =
      let rule : RuleValue = get_or rules (n - 1) nothing in
      let same : (other : RuleValue) → IsRuleAt rules n other → other ≡ rule = at_place rules n in
      ⊎_elim
      (λ is. ⊎_elim
      (λ held. ⊎_elim
      (λ taken. inl (rule, rule_there rules n ge le, is, held, (by_cuts (pattern rule) name).0 taken))
      (λ not. inr (λ h. true≢false (sym ((by_cuts (pattern rule) name).1 (subst (λ z. Takes (pattern z) name) (same h.0 h.1) h.4)) ∙ not)))
      (cases_Bool (takes (pattern rule) name)))
      (λ not. inr (λ h. true≢false (sym (subst (λ z. IsTrue (holds z p)) (same h.0 h.1) h.3) ∙ not)))
      (cases_Bool (holds rule p)))
      (λ not. inr (λ h. not (subst (λ (z : RuleValue). z.kind ≡ kind) (same h.0 h.1) h.2)))
      (same_kind rule.kind kind)

  -- a rule hits or it doesn't
  pub hits_or_not : (kind : RuleKind) (n : ℕ) → Hits rules kind p name n ⊎ (Hits rules kind p name n → ⊥)
  hits_or_not kind n = ⊎_elim
      (λ none. inr (λ h. let e : ⊥ = omega (arith, none, h.1.0) in e))
      (λ ge. ⊎_elim
      (λ past. inr (λ h. let e : ⊥ = omega (arith, past, h.1.1) in e))
      (λ le. hits_there kind n ge le)
      (cases_lt (length rules) n))
      (cases_lt n 1)

  module _ (k : ℕ) where
    -- where no other rule is in a set, each member is k
    others_none : (S : ℕ → Type 0) → ((n : ℕ) → S n → n ≢ k → ⊥) → (n : ℕ) → S n → n ≡ k
    others_none S none n s = ⊎_elim (λ e. e) (λ ne. absurd (none n s ne)) (cases_eq n k)

    lone_allow : IsAllowed rules name p → (IsAllowedWithout rules k name p → ⊥) →
        IsLoneHit rules Allow p name k × ((n : ℕ) → Hits rules Deny p name n → ⊥)
    lone_allow allowed without =
        let by = (allowed_by_hits rules name p).0 allowed in
        let alone = others_none (Hits rules Allow p name) (λ n h ne. without ((λ j d. by.0 j d.0), (n, (h, ne)))) in
        ((subst (Hits rules Allow p name) (alone by.1.0 by.1.1) by.1.1, alone), by.0)

    lone_deny : IsAllowedWithout rules k name p → (IsAllowed rules name p → ⊥) →
        IsLoneHit rules Deny p name k × ((n : ℕ) × Hits rules Allow p name n)
    lone_deny without allowed =
        let alone = others_none (Hits rules Deny p name) (λ n h ne. without.0 n (h, ne)) in
        let some : (n : ℕ) × Hits rules Allow p name n = (without.1.0, without.1.1.0) in
        ⊎_elim
        (λ h. ((h, alone), some))
        (λ none. absurd (allowed ((allowed_by_hits rules name p).1
        ((λ n h. none (subst (Hits rules Deny p name) (alone n h) h)), some))))
        (hits_or_not Deny k)

    pub lone_decides : DecidesFor rules k p name
        ↔ ((IsLoneHit rules Allow p name k × ((n : ℕ) → Hits rules Deny p name n → ⊥))
        ⊎ (IsLoneHit rules Deny p name k × ((n : ℕ) × Hits rules Allow p name n)))
    lone_decides = (
      ⊎_elim (λ h. inl (lone_allow h.0 h.1)) (λ h. inr (lone_deny h.0 h.1)),
      ⊎_elim
          (λ h. inl ((allowed_by_hits rules name p).1 (h.1, (k, h.0.0)), λ w. w.1.1.1 (h.0.1 w.1.0 w.1.1.0)))
          (λ h. inr (
            (
              λ n d. d.1 (h.0.1 n d.0),
              (h.1.0, (h.1.1, λ e. one_kind k h.0.0 (subst (Hits rules Allow p name) e h.1.1))),
            ),
            λ a. ((allowed_by_hits rules name p).0 a).0 k h.0.0,
          )),
    )

    -- a rule that isn't there is idle
    pub absent_idle : ((n : ℕ) → 1 ≤ n → n ≤ length rules → n ≢ k) → IsAllowed rules name p ↔ IsAllowedWithout rules k name p
    absent_idle other = (
      λ a. let by = (allowed_by_hits rules name p).0 a in
          ((λ n h. by.0 n h.0), (by.1.0, (by.1.1, other by.1.0 by.1.1.1.0 by.1.1.1.1))),
      λ w. (allowed_by_hits rules name p).1
          ((λ n h. w.0 n (h, other n h.1.0 h.1.1)), (w.1.0, w.1.1.0)),
    )
