-- What the least hits of rules and of the reversed rules say of stand-ins.
use Rattle.std.proofs.Common.{◌≡◌, ◌≢◌, ◌⊎◌, ◌↔◌, inl, inr, ⊎_elim, ℕ, ◌+◌, ◌-◌, ◌≤◌, ◌==◌, ◌&&◌, ◌||◌, true, false}
use Rattle.std.proofs.Common.{not, List, length, reverse, IsTrue, nat_lt, refl, sym, ap, ◌∙◌, subst, arith, if◌then◌else◌}
use Rattle.std.proofs.lemmas.Bool.{and_from, and_parts, cases_Bool, cases_eq, eq-eqb, eqb-false, eqb-true, le-ltb, ne_eqb, or_from}
use Rattle.names.specs.declared.permissions.Permission.{Permission}
use Rattle.names.specs.declared.kind.RuleKind.{RuleKind}
use Rattle.names.specs.declared.kind.RuleKind.TheVariants.{Allow, Deny}
use Rattle.names.specs.declared.record.LeastHits.{LeastHits}
use Rattle.names.specs.Least.{IsLeastOrNone, hits_of}
use Rattle.names.specs.Permissions.{has}
use Rattle.names.specs.laws.LeastNumbers.{least_some, least_there, none_least}
use Rattle.profile_questions.specs.declared.comparison.Records.{Records}
use Rattle.rule_globs.specs.Glob.{Takes}
use Rattle.rule_globs.specs.Rules.{RuleValue, holds, pattern}
use Rattle.rule_globs.specs.Verdict.{Hits, IsLeast, IsRuleAt}
use Rattle.glob_automaton.specs.Least.{IsLeastRecord}
use Rattle.rule_influence.specs.StandIns.{IsGreatest, IsStandInAt, IsUpTo, Matters}
use Rattle.rule_influence.specs.declared.substitutes.IdleCase.{IdleCase}
use Rattle.rule_influence.specs.inner.Candidates.{IsAtNameFor, candidate, is_outside, other_end, other_hit, stand_in}
use Rattle.rule_influence.proofs.LoneHits.{greatest}

-- ---- the first and the last of a set

module _ (S : ℕ → Type 0) (first last k : ℕ) (least : IsLeast S first) (most : IsGreatest S last) (positive : (m : ℕ) → S m → m ≢ 0) where
  end_first : first ≢ k → other_end k first last ≡ first
  end_first ne = ap (λ b. if not b then first else if not (last == k) then last else 0) (ne_eqb first k ne)

  end_rest : first ≡ k → other_end k first last ≡ (if not (last == k) then last else 0)
  end_rest e = ap (λ b. if not b then first else if not (last == k) then last else 0) (eq-eqb first k e)

  end_last : first ≡ k → last ≢ k → other_end k first last ≡ last
  end_last e ne = end_rest e ∙ ap (λ b. if not b then last else 0) (ne_eqb last k ne)

  end_none : first ≡ k → last ≡ k → other_end k first last ≡ 0
  end_none e same = end_rest e ∙ ap (λ b. if not b then last else 0) (eq-eqb last k same)

  abbrev IsEnd : ℕ → Type 0
  IsEnd n = (n ≢ k) × (IsLeast S n ⊎ (IsLeast S k × IsGreatest S n))

  end_is : (n : ℕ) → other_end k first last ≡ n → n ≢ 0 → IsEnd n
  end_is n e nonzero = ⊎_elim
      (λ same. ⊎_elim
      (λ lone. absurd (nonzero (sym e ∙ end_none same lone)))
      (λ ne.
      let there : last ≡ n = sym (end_last same ne) ∙ e in
      ((λ z. ne (there ∙ z)), inr (subst (IsLeast S) same least, subst (IsGreatest S) there most)))
      (cases_eq last k))
      (λ ne.
      let there : first ≡ n = sym (end_first ne) ∙ e in
      ((λ z. ne (there ∙ z)), inl (subst (IsLeast S) there least)))
      (cases_eq first k)

  is_end : (n : ℕ) → IsEnd n → other_end k first last ≡ n
  is_end n h = ⊎_elim
      (λ l.
      let same : first ≡ n = omega (arith, least.1 n l.0, l.1 first least.0) in
      end_first (λ z. h.0 (sym same ∙ z)) ∙ same)
      (λ both.
      let same : first ≡ k = omega (arith, least.1 k both.0.0, both.0.1 first least.0) in
      let there : last ≡ n = omega (arith, most.1 n both.1.0, both.1.1 last most.0) in
      end_last same (λ z. h.0 (sym there ∙ z)) ∙ there)
      h.1

  end_nonzero : (n : ℕ) → IsEnd n → n ≢ 0
  end_nonzero n h = ⊎_elim (λ l. positive n l.0) (λ both. positive n both.1.0) h.1

module _ (rules : List RuleValue) (name : List ℕ) (records : Records) (least : IsLeastRecord rules name records.first)
    (other : IsLeastRecord (reverse rules) name records.second) (p : Permission) (k : ℕ) where
  abbrev hits : LeastHits
  hits = hits_of records.first p

  abbrev ends : LeastHits
  ends = hits_of records.second p

  above : (kind : RuleKind) (n : ℕ) → Hits rules kind p name n → n ≢ 0
  above kind n h e = let none : ⊥ = omega (arith, h.1.0, e) in none

  module _ (kind : RuleKind) (first reversed : ℕ) (is : IsLeastOrNone (Hits rules kind p name) first)
      (back : IsLeastOrNone (Hits (reverse rules) kind p name) reversed) (hit : Hits rules kind p name k) where
    abbrev last : ℕ
    last = length rules + 1 - reversed

    low : Hits rules kind p name first × (first ≤ k)
    low = least_there (Hits rules kind p name) first k is hit

    top : Hits rules kind p name last × (1 ≤ reversed) × (reversed ≤ length rules) × (k ≤ last)
    top = greatest rules name p kind first reversed is back k hit

    is_least : IsLeast (Hits rules kind p name) first
    is_least = (low.0, λ m h. (least_there (Hits rules kind p name) first m is h).1)

    is_greatest : IsGreatest (Hits rules kind p name) last
    is_greatest = (top.0, λ m h. (greatest rules name p kind first reversed is back m h).3)

    inside : is_outside (length rules) k first reversed ≡ false
    inside = or_from (reversed == 0 || first == 0) (nat_lt k first || nat_lt last k)
        (or_from (reversed == 0) (first == 0) (ne_eqb reversed 0 (λ z. omega (arith, z, top.1))) (ne_eqb first 0 (above kind first low.0)))
        (or_from (nat_lt k first) (nat_lt last k) (le-ltb k first low.1) (le-ltb last k top.3))

    hit_is : other_hit (length rules) k first reversed ≡ other_end k first last
    hit_is = ap (λ b. if b then 0 else other_end k first last) inside

    hit_stands : (n : ℕ) → ((other_hit (length rules) k first reversed ≡ n) × (n ≢ 0)) ↔ IsStandInAt rules kind k p name n
    hit_stands n = (
      λ h. end_is (Hits rules kind p name) first last k is_least is_greatest (above kind) n (sym hit_is ∙ h.0) h.1,
      λ h. (
        hit_is ∙ is_end (Hits rules kind p name) first last k is_least is_greatest (above kind) n h,
        end_nonzero (Hits rules kind p name) first last k is_least is_greatest (above kind) n h,
      ),
    )

  -- ---- by kinds

  no_denial : hits.deny ≡ 0 → (n : ℕ) → Hits rules Deny p name n → ⊥
  no_denial e n h = above Deny hits.deny (least_there (Hits rules Deny p name) hits.deny n (least p).1 h).0 e

  some_allows : hits.allow ≢ 0 → (n : ℕ) × Hits rules Allow p name n
  some_allows ne = (hits.allow, least_some (Hits rules Allow p name) hits.allow (least p).0 ne)

  -- what the least hits say, where the rule hits
  stands : (kind : RuleKind) → Hits rules kind p name k → (n : ℕ) →
      ((stand_in (length rules) k kind hits ends ≡ n) × (n ≢ 0)) ↔ (IsUpTo rules kind p name × IsStandInAt rules kind k p name n)
  stands Allow hit n = (
    λ h. ⊎_elim
        (λ none.
        let e : other_hit (length rules) k hits.allow ends.allow ≡ n =
        sym (ap (λ b. if b then other_hit (length rules) k hits.allow ends.allow else 0) none) ∙ h.0 in
        (no_denial (eqb-true hits.deny 0 none), (hit_stands Allow hits.allow ends.allow (least p).0 (other p).0 hit n).0 (e, h.1)))
        (λ some. absurd (h.1
        (sym h.0 ∙ ap (λ b. if b then other_hit (length rules) k hits.allow ends.allow else 0) some)))
        (cases_Bool (hits.deny == 0)),
    λ h.
        let none : hits.deny ≡ 0 = none_least (Hits rules Deny p name) hits.deny (least p).1 h.0 in
        let there = (hit_stands Allow hits.allow ends.allow (least p).0 (other p).0 hit n).1 h.1 in (
          ap (λ b. if b then other_hit (length rules) k hits.allow ends.allow else 0) (eq-eqb hits.deny 0 none) ∙ there.0,
          there.1,
        ),
  )
  stands Deny hit n = (
    λ h. ⊎_elim
        (λ none. absurd (h.1
        (sym h.0 ∙ ap (λ b. if b then 0 else other_hit (length rules) k hits.deny ends.deny) none)))
        (λ some.
        let e : other_hit (length rules) k hits.deny ends.deny ≡ n =
        sym (ap (λ b. if b then 0 else other_hit (length rules) k hits.deny ends.deny) some) ∙ h.0 in
        (some_allows (eqb-false hits.allow 0 some), (hit_stands Deny hits.deny ends.deny (least p).1 (other p).1 hit n).0 (e, h.1)))
        (cases_Bool (hits.allow == 0)),
    λ h.
        let some : hits.allow ≢ 0 =
        λ e. above Allow hits.allow (least_there (Hits rules Allow p name) hits.allow h.0.0 (least p).0 h.0.1).0 e in
        let there = (hit_stands Deny hits.deny ends.deny (least p).1 (other p).1 hit n).1 h.1 in (
          ap (λ b. if b then 0 else other_hit (length rules) k hits.deny ends.deny) (ne_eqb hits.allow 0 some) ∙ there.0,
          there.1,
        ),
  )

-- rule n stands in for a case's rule at a name
abbrev pub StandsAt : List RuleValue → IdleCase → List ℕ → ℕ → Type 0
StandsAt rules idle name n = (p : Permission) × (has idle.perms p ≡ true)
    × ((kind : RuleKind) × Matters rules kind idle.rule p name × IsStandInAt rules kind idle.rule p name n)

module _ (rules : List RuleValue) (name : List ℕ) (records : Records) (least : IsLeastRecord rules name records.first)
    (other : IsLeastRecord (reverse rules) name records.second) (idle : IdleCase) where
  module _ (rule : RuleValue) (at : IsRuleAt rules idle.rule rule) (p : Permission) where
    abbrev stand : ℕ
    stand = stand_in (length rules) idle.rule rule.kind (hits_of records.first p) (hits_of records.second p)

    held_stands : (n : ℕ) → IsTrue (has idle.perms p && holds rule p) → candidate
        (length rules) idle.rule rule idle.perms records p ≡ stand
    held_stands n both = ap (λ b. if b then stand else 0) both

    from_candidate : (n : ℕ) → candidate (length rules) idle.rule rule idle.perms records p ≡ n → n ≢ 0 → Takes (pattern rule) name →
        StandsAt rules idle name n
    from_candidate n e nonzero taken = ⊎_elim
        (λ both.
        let parts = and_parts (has idle.perms p) (holds rule p) both in
        let hit : Hits rules rule.kind p name idle.rule = (rule, at, refl, parts.1, taken) in
        let there = (stands rules name records least other p idle.rule rule.kind hit n).0 (sym (held_stands n both) ∙ e, nonzero) in
        (p, parts.0, (rule.kind, (hit, there.0), there.1)))
        (λ none. absurd (nonzero (sym e ∙ ap (λ b. if b then stand else 0) none)))
        (cases_Bool (has idle.perms p && holds rule p))

  pub at_name : (n : ℕ) → IsAtNameFor rules idle records name n ↔ StandsAt rules idle name n
  at_name n = (
    λ h. from_candidate h.0 h.1 h.2.0 n h.2.1 h.2.2 h.3,
    λ h.
        let p = h.0 in
        let hit = h.2.1.0 in
        let rule : RuleValue = hit.0 in
        let there = (stands rules name records least other p idle.rule h.2.0 hit n).1 (h.2.1.1, h.2.2) in
        let both : IsTrue (has idle.perms p && holds rule p) = and_from (has idle.perms p) (holds rule p) h.1 hit.3 in (
          rule,
          hit.1,
          (
            p,
            held_stands rule hit.1 p n both
                ∙ subst (λ z. stand_in (length rules) idle.rule z (hits_of records.first p) (hits_of records.second p) ≡ n) (sym hit.2)
                there.0,
            there.1,
          ),
          hit.4,
        ),
  )
