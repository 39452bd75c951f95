-- Idle rules have stand-ins at each name that matters.
use Rattle.std.proofs.Common.{◌≡◌, ◌⊎◌, ◌↔◌, inl, inr, ⊎_elim, ℕ, zero, suc, ◌+◌, ◌≤◌, true, List, [], Contains, length}
use Rattle.std.proofs.Common.{subst, arith}
use Rattle.std.proofs.lemmas.Bool.{cases_eq}
use Rattle.glob_automaton.specs.laws.AscendingLists.{contains_none, no_members, same_lists}
use Rattle.names.specs.declared.permissions.Permission.{Permission}
use Rattle.names.specs.declared.kind.RuleKind.{RuleKind}
use Rattle.names.specs.declared.kind.RuleKind.TheVariants.{Allow, Deny}
use Rattle.names.specs.Paths.{IsName}
use Rattle.names.specs.Permissions.{has}
use Rattle.rule_globs.specs.Rules.{RuleValue}
use Rattle.rule_globs.specs.Verdict.{Hits, IsLeast}
use Rattle.rule_influence.specs.Influence.{DecidesFor, IsIdle, IsLoneHit}
use Rattle.rule_influence.specs.StandIns.{AreTheStandIns, IsGreatest, IsStandInAt, IsUpTo, Matters}
use Rattle.rule_influence.specs.declared.substitutes.IdleCase.{IdleCase}
use Rattle.rule_influence.specs.laws.HitLaws.{hits_or_not, lone_decides}

-- a set of numbers of which each is a member or isn't has a least one and, up to a bound, a greatest one
module _ (S : ℕ → Type 0) (tells : (n : ℕ) → S n ⊎ (S n → ⊥)) (n : ℕ) (there : S n) where
  least_from : (left i : ℕ) → ((m : ℕ) → S m → i ≤ m) → n ≤ i + left → (m : ℕ) × IsLeast S m
  least_from zero i none le = (n, (there, λ m s. omega (arith, none m s, le)))
  least_from (suc left) i none le = ⊎_elim
      (λ s. (i, (s, none)))
      (λ not. least_from left (i + 1)
      (λ m s. ⊎_elim
      (λ e. absurd (not (subst S e s)))
      (λ ne. omega (arith, ne, none m s))
      (cases_eq m i))
      (omega (arith, le)))
      (tells i)

  some_least : (m : ℕ) × IsLeast S m
  some_least = least_from n 0 (λ m s. omega arith) (omega arith)

  greatest_to : (i : ℕ) → ((m : ℕ) → S m → m ≤ i) → (m : ℕ) × IsGreatest S m
  greatest_to zero none = (n, (there, λ m s. omega (arith, none m s)))
  greatest_to (suc i) none = ⊎_elim
      (λ s. (suc i, (s, none)))
      (λ not. greatest_to i
      (λ m s. ⊎_elim
      (λ e. absurd (not (subst S e s)))
      (λ ne. omega (arith, ne, none m s))
      (cases_eq m (suc i))))
      (tells (suc i))

module _ (rules : List RuleValue) (kind : RuleKind) (k : ℕ) (p : Permission) (name : List ℕ) where
  abbrev S : ℕ → Type 0
  S = Hits rules kind p name

  pub stand_in_hits : (n : ℕ) → IsStandInAt rules kind k p name n → Hits rules kind p name n
  stand_in_hits n h = ⊎_elim (λ l. l.0) (λ both. both.1.0) h.1

  -- a rule that is the only one of its kind where that matters isn't idle
  lone_contends : IsName name → IsIdle rules k p → DecidesFor rules k p name → ⊥
  lone_contends is idle d = ⊎_elim (λ h. h.1 ((idle name is).0 h.0)) (λ h. h.1 ((idle name is).1 h.0)) d

  lone_matters : IsLoneHit rules kind p name k → IsUpTo rules kind p name → DecidesFor rules k p name
  lone_matters lone up = (lone_decides rules p name k).1 (by_kind kind lone up)
    where
      by_kind : (kind : RuleKind) → IsLoneHit rules kind p name k → IsUpTo rules kind p name →
          (IsLoneHit rules Allow p name k × ((n : ℕ) → Hits rules Deny p name n → ⊥))
          ⊎ (IsLoneHit rules Deny p name k × ((n : ℕ) × Hits rules Allow p name n))
      by_kind Allow lone up = inl (lone, up)
      by_kind Deny lone up = inr (lone, up)

  pub idle_stands : IsName name → IsIdle rules k p → Matters rules kind k p name → (n : ℕ) × IsStandInAt rules kind k p name n
  idle_stands is idle matters =
      let hit = matters.0 in
      let tells = hits_or_not rules p name kind in
      let low = some_least S tells k hit in
      let top = greatest_to S tells k hit (length rules) (λ m h. h.1.1) in
      ⊎_elim
      (λ same. ⊎_elim
      (λ lone. absurd (lone_contends is idle (lone_matters
      (hit, λ m h. omega (arith, low.1.1 m h, top.1.1 m h, same, lone)) matters.1)))
      (λ ne. (top.0, (ne, inr (subst (IsLeast S) same low.1, top.1))))
      (cases_eq top.0 k))
      (λ ne. (low.0, (ne, inl low.1)))
      (cases_eq low.0 k)

module _ (rules : List RuleValue) (idle : IdleCase) where
  pub none_matter : (list : List ℕ) → AreTheStandIns rules idle list →
      ((p : Permission) → has idle.perms p ≡ true → IsIdle rules idle.rule p) →
      (list ≡ []) ↔ ((kind : RuleKind) (p : Permission) (name : List ℕ) → has idle.perms p ≡ true → IsName name →
      Matters rules kind idle.rule p name → ⊥)
  none_matter list are each = (
    λ empty kind p name asked is matters.
        let there = idle_stands rules kind idle.rule p name is (each p asked) matters in
        contains_none there.0 (subst (λ z. Contains z there.0) empty
        ((are.members there.0).1 (p, asked, (kind, name, is, matters, there.1)))),
    λ none. no_members list (λ n h.
        let by = (are.members n).0 h in
        none by.2.0 by.0 by.2.1 by.1 by.2.2 by.2.3),
  )

  pub one_list : (one other : List ℕ) → AreTheStandIns rules idle one → AreTheStandIns rules idle other → one ≡ other
  one_list one other first second = same_lists one other first.ascending second.ascending
      (λ n. (λ h. (second.members n).1 ((first.members n).0 h), λ h. (first.members n).1 ((second.members n).0 h)))
