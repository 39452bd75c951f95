-- Stand-ins, as one representative after another is looked at, and what that says of all names.
use Rattle.std.proofs.Common.{◌≡◌, ◌⊎◌, ◌↔◌, inl, inr, ⊎_elim, ℕ, ◌+◌, ◌<◌, ◌≤◌, List, [], Vec, Global, Some, Contains, length}
use Rattle.std.proofs.Common.{reverse, get_or, refl}
use Rattle.std.proofs.Common.{slice_get, replicate, sym, ap, ◌∙◌, subst, arith}
use Rattle.std.proofs.lemmas.Bool.{cases_lt}
use Rattle.std.proofs.lemmas.List.{get_or-replicate, length-map, length-replicate}
use Rattle.std.proofs.lemmas.Option.{get_or_from_slice_get, same_Some, slice_get_within}
use Rattle.glob_automaton.specs.laws.AscendingLists.{contains_none}
use Rattle.glob_automaton.specs.Least.{IsLeastRecord}
use Rattle.names.specs.declared.permissions.Permission.{Permission}
use Rattle.names.specs.declared.kind.RuleKind.{RuleKind}
use Rattle.names.specs.declared.kind.RuleKind.TheVariants.{Allow, Deny}
use Rattle.profile_questions.specs.declared.comparison.Records.{Records}
use Rattle.profile_questions.specs.Names.{AreLeastHits, AreRepresentatives, ComparisonValue, IsAlike}
use Rattle.rule_globs.specs.Rules.{RuleValue}
use Rattle.rule_influence.specs.StandIns.{AreStandIns, IsAscending, IsStandInAt, IsUpTo}
use Rattle.rule_influence.specs.declared.substitutes.IdleCase.{IdleCase}
use Rattle.rule_influence.specs.inner.Candidates.{IsCandidateFor}
use Rattle.rule_influence.specs.inner.Lists.{AreNotedAt, list_at, numbers_of}
use Rattle.rule_influence.proofs.Scans.{hits_alike, hits_back}
use Rattle.rule_influence.proofs.StandingRules.{StandsAt, at_name}

-- names that no rule distinguishes have the same stand-ins
module _ (rules : List RuleValue) (p : Permission) (x y : List ℕ) (alike : IsAlike rules x y) where
  up_to_alike : (kind : RuleKind) → IsUpTo rules kind p x → IsUpTo rules kind p y
  up_to_alike Allow none = λ n h. none n (hits_back rules p x y alike Deny n h)
  up_to_alike Deny some = (some.0, hits_alike rules p x y alike Allow some.0 some.1)

  stand_alike : (kind : RuleKind) (k n : ℕ) → IsStandInAt rules kind k p x n → IsStandInAt rules kind k p y n
  stand_alike kind k n h = (
    h.0,
    ⊎_elim
        (λ l. inl (hits_alike rules p x y alike kind n l.0, λ m t. l.1 m (hits_back rules p x y alike kind m t)))
        (λ both. inr (
          (hits_alike rules p x y alike kind k both.0.0, λ m t. both.0.1 m (hits_back rules p x y alike kind m t)),
          (hits_alike rules p x y alike kind n both.1.0, λ m t. both.1.1 m (hits_back rules p x y alike kind m t)),
        ))
        h.1,
  )

stands_alike : (rules : List RuleValue) (idle : IdleCase) (x y : List ℕ) (n : ℕ) → IsAlike rules x y → StandsAt rules idle x n →
    StandsAt rules idle y n
stands_alike rules idle x y n alike h =
    let p = h.0 in
    let kind = h.2.0 in (
      p,
      h.1,
      (
        kind,
        (hits_alike rules p x y alike kind idle.rule h.2.1.0, up_to_alike rules p x y alike kind h.2.1.1),
        stand_alike rules p x y alike kind idle.rule n h.2.2,
      ),
    )

module _ (rules : List RuleValue) (names : List (List ℕ)) (cases : List IdleCase) where
  -- rule n stands in at some representative before the index
  abbrev StandsBefore : IdleCase → ℕ → ℕ → Type 0
  StandsBefore idle index n =
      (j : ℕ) × (name : List ℕ) × (j < index) × (slice_get names j ≡ Some name) × StandsAt rules idle name n

  -- exactly these are in the lists
  pub record AreFoundSoFar (index : ℕ) (lists : List (Vec ℕ Global)) : Type 0 where
    pub each : length lists ≡ length cases
    pub ascending : (i : ℕ) (idle : IdleCase) → slice_get cases i ≡ Some idle → IsAscending (list_at lists i)
    pub members : (i : ℕ) (idle : IdleCase) (n : ℕ) → slice_get cases i ≡ Some idle →
        Contains (list_at lists i) n ↔ StandsBefore idle index n

  pub found_first : (lists : List (Vec ℕ Global)) (count : ℕ) → count ≡ length cases → numbers_of lists ≡ replicate count [] →
      AreFoundSoFar 0 lists
  found_first lists count is empty =
      let at : (i : ℕ) (idle : IdleCase) → slice_get cases i ≡ Some idle → list_at lists i ≡ [] =
      λ i idle there. ap (λ (z : List (List ℕ)). get_or z i []) empty
      ∙ get_or-replicate count i [] [] (omega (arith, slice_get_within cases i idle there, is)) in record {
        each = sym (length-map lists (λ list. list.items)) ∙ ap (λ (z : List (List ℕ)). length z) empty ∙ length-replicate count [] ∙ is;
        ascending = λ i idle there j k lt within. absurd
            (omega (arith, within, ap (λ (z : List ℕ). length z) (at i idle there)));
        members = λ i idle n there. (
          λ h. absurd (contains_none n (subst (λ z. Contains z n) (at i idle there) h)),
          λ h. absurd (omega (arith, h.2)),
        );
      }

  module _ (index : ℕ) (name : List ℕ) (named : slice_get names index ≡ Some name) where
    before_more : (idle : IdleCase) (n : ℕ) → StandsBefore idle (index + 1) n ↔ (StandsBefore idle index n ⊎ StandsAt rules idle name n)
    before_more idle n = (
      λ h. ⊎_elim
          (λ less. inl (h.0, h.1, less, h.3, h.4))
          (λ ge.
          let e : h.0 ≡ index = omega (arith, ge, h.2) in
          let one : h.1 ≡ name = same_Some h.1 name (sym h.3 ∙ ap (slice_get names) e ∙ named) in
          inr (subst (λ z. StandsAt rules idle z n) one h.4))
          (cases_lt h.0 index),
      ⊎_elim
          (λ b. (b.0, b.1, omega (arith, b.2), b.3, b.4))
          (λ s. (index, name, omega arith, named, s)),
    )

    -- what stands in at this name is added to each list
    found_next : (old new : List (Vec ℕ Global)) → length new ≡ length old →
        ((i : ℕ) (idle : IdleCase) → slice_get cases i ≡ Some idle → IsAscending (list_at new i)) →
        ((i : ℕ) (idle : IdleCase) (n : ℕ) → slice_get cases i ≡ Some idle →
        Contains (list_at new i) n ↔ (Contains (list_at old i) n ⊎ StandsAt rules idle name n)) →
        AreFoundSoFar index old → AreFoundSoFar (index + 1) new
    found_next old new same up more so_far = record {
      each = same ∙ so_far.each;
      ascending = up;
      members = λ i idle n there. (
        λ h. (before_more idle n).1 (⊎_elim
            (λ was. inl ((so_far.members i idle n there).0 was))
            inr
            ((more i idle n there).0 h)),
        λ h. (more i idle n there).1 (⊎_elim
            (λ was. inl ((so_far.members i idle n there).1 was))
            inr
            ((before_more idle n).0 h)),
      );
    }

    module _ (records : Records) (least : IsLeastRecord rules name records.first)
        (other : IsLeastRecord (reverse rules) name records.second) where
      -- nothing is to be added
      found_kept : (lists : List (Vec ℕ Global)) → ((i : ℕ) (idle : IdleCase) (n : ℕ) → slice_get cases i ≡ Some idle →
          IsAscending (list_at lists i) → IsCandidateFor rules idle records n → Contains (list_at lists i) n) →
          AreFoundSoFar index lists → AreFoundSoFar (index + 1) lists
      found_kept lists all so_far = found_next lists lists refl so_far.ascending
          (λ i idle n there. (
            inl,
            ⊎_elim (λ h. h) (λ s.
                let at = (at_name rules name records least other idle n).1 s in
                all i idle n there (so_far.ascending i idle there) (at.0, at.1, at.2)),
          )) so_far

      found_noted : (old new : List (Vec ℕ Global)) → AreNotedAt rules cases records name old new →
          AreFoundSoFar index old → AreFoundSoFar (index + 1) new
      found_noted old new noted so_far = found_next old new noted.each
          (λ i idle there. (noted.noted i idle there (so_far.ascending i idle there)).ascending)
          (λ i idle n there.
          let members = (noted.noted i idle there (so_far.ascending i idle there)).members n in
          let at = at_name rules name records least other idle n in (
            λ h. ⊎_elim inl (λ a. inr (at.0 a)) (members.0 h),
            λ h. members.1 (⊎_elim inl (λ s. inr (at.1 s)) h),
          )) so_far

-- all representatives stand for all names
found_all : (c : ComparisonValue) (cases : List IdleCase) (index : ℕ) (lists : List (Vec ℕ Global)) → AreRepresentatives c →
    length c.names ≤ index → AreFoundSoFar c.first c.names cases index lists → AreStandIns c.first cases (numbers_of lists)
found_all c cases index lists are past so_far = record {
  each = length-map lists (λ list. list.items) ∙ so_far.each;
  stand_in = λ i idle list at there.
      let is : list_at lists i ≡ list = get_or_from_slice_get (numbers_of lists) i list [] there in record {
        ascending = subst IsAscending is (so_far.ascending i idle at);
        members = λ n. (
          λ h.
              let one = (so_far.members i idle n at).0 (subst (λ z. Contains z n) (sym is) h) in
              let p = one.4.0 in
              (p, one.4.1, (one.4.2.0, one.1, are.named one.0 one.1 one.3, one.4.2.1, one.4.2.2)),
          λ h.
              let name = h.2.1 in
              let one = are.complete name h.2.2 in
              let stands : StandsAt c.first idle name n = (h.0, h.1, (h.2.0, h.2.3, h.2.4)) in
              subst (λ z. Contains z n) is ((so_far.members i idle n at).1 (
                one.0,
                one.1,
                omega (arith, past, slice_get_within c.names one.0 one.1 one.2),
                one.2,
                stands_alike c.first idle name one.1 n one.4.0 stands,
              )),
        );
      };
}

module _ (rules : List RuleValue) (c : ComparisonValue) (first : c.first ≡ rules) (second : c.second ≡ reverse rules)
    (are : AreRepresentatives c) (cases : List IdleCase) where
  module _ (index : ℕ) (records : Records)
      (one : (name : List ℕ) × (slice_get c.names index ≡ Some name) × AreLeastHits c name records) where
    least : IsLeastRecord rules one.0 records.first
    least = subst (λ z. IsLeastRecord z one.0 records.first) first one.2.first

    other : IsLeastRecord (reverse rules) one.0 records.second
    other = subst (λ z. IsLeastRecord z one.0 records.second) second one.2.second

    pub kept_more : (lists : List (Vec ℕ Global)) → ((i : ℕ) (idle : IdleCase) (n : ℕ) → slice_get cases i ≡ Some idle →
        IsAscending (list_at lists i) → IsCandidateFor rules idle records n → Contains (list_at lists i) n) →
        AreFoundSoFar rules c.names cases index lists → AreFoundSoFar rules c.names cases (index + 1) lists
    kept_more lists all so_far = found_kept rules c.names cases index one.0 one.1 records least other lists all so_far

    pub noted_more : (name : List ℕ) (old new : List (Vec ℕ Global)) → slice_get c.names index ≡ Some name →
        AreNotedAt rules cases records name old new → AreFoundSoFar rules c.names cases index old →
        AreFoundSoFar rules c.names cases (index + 1) new
    noted_more name old new at noted so_far =
        let e : name ≡ one.0 = same_Some name one.0 (sym at ∙ one.1) in
        found_noted rules c.names cases index one.0 one.1 records least other old new
        (subst (λ z. AreNotedAt rules cases records z old new) e noted) so_far

  pub found_last : (index : ℕ) (lists : List (Vec ℕ Global)) → length c.names ≤ index →
      AreFoundSoFar rules c.names cases index lists → AreStandIns rules cases (numbers_of lists)
  found_last index lists past so_far = subst (λ z. AreStandIns z cases (numbers_of lists)) first
      (found_all c cases index lists are past (subst (λ z. AreFoundSoFar z c.names cases index lists) (sym first) so_far))
