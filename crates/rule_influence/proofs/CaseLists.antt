-- Candidates of a case, by the number of its rule, and lists, as one case after another is looked at.
use Rattle.std.proofs.Common.{◌≡◌, ◌≢◌, ◌↔◌, inl, inr, ⊎_elim, ℕ, ◌+◌, ◌<◌, ◌≤◌, List, [], Vec, Global, Some, Contains, length}
use Rattle.std.proofs.Common.{slice_get, slice_set, get_or, refl, sym, ap, ◌∙◌, subst, arith}
use Rattle.std.proofs.lemmas.Bool.{cases_lt}
use Rattle.std.proofs.lemmas.List.{get_or-map, get_or-set_other, get_or-set_same, length-set, map-set}
use Rattle.std.proofs.lemmas.Option.{same_Some, slice_get_within}
use Rattle.names.specs.declared.permissions.Permission.{Permission}
use Rattle.profile_questions.specs.declared.comparison.Records.{Records}
use Rattle.rule_globs.specs.Glob.{Takes}
use Rattle.rule_globs.specs.Rules.{RuleValue, pattern}
use Rattle.rule_globs.specs.Verdict.{IsRuleAt}
use Rattle.rule_profile.specs.Rules.{rule_value}
use Rattle.rule_influence.specs.StandIns.{IsAscending}
use Rattle.rule_influence.specs.declared.candidates.Case.{Case}
use Rattle.rule_influence.specs.declared.substitutes.IdleCase.{IdleCase}
use Rattle.rule_influence.specs.inner.Candidates.{IsAtName, IsAtNameFor, IsCandidate, IsCandidateFor, IsCaseOf, candidate}
use Rattle.rule_influence.specs.inner.Lists.{AreAdded, AreNotedAt, list_at, numbers_of}
use Rattle.rule_influence.specs.laws.HitLaws.{at_place}

module _ (rules : List RuleValue) (idle : IdleCase) (records : Records) where
  module _ (case : Case) (is : IsCaseOf rules idle case) where
    abbrev own : RuleValue
    own = rule_value case.rule.now

    same_rule : (rule : RuleValue) → IsRuleAt rules idle.rule rule → rule ≡ own
    same_rule rule at = at_place rules idle.rule rule at ∙ sym (at_place rules idle.rule own is.rule)

    same_candidate : (p : Permission) → candidate case.count case.number own case.perms records p
        ≡ candidate (length rules) idle.rule own idle.perms records p
    same_candidate p =
        ap (λ z. candidate z case.number own case.perms records p) is.count
        ∙ ap (λ z. candidate (length rules) z own case.perms records p) is.number
        ∙ ap (λ z. candidate (length rules) idle.rule own z records p) is.perms

    case_candidate : (n : ℕ) → IsCandidateFor rules idle records n → IsCandidate case records n
    case_candidate n h =
        let p = h.2.0 in (
          p,
          same_candidate p
              ∙ subst (λ z. candidate (length rules) idle.rule z idle.perms records p ≡ n) (same_rule h.0 h.1) h.2.1,
          h.2.2,
        )

    case_at : (name : List ℕ) (n : ℕ) → IsAtName case records name n ↔ IsAtNameFor rules idle records name n
    case_at name n = (
      λ h. (own, is.rule, (h.0.0, sym (same_candidate h.0.0) ∙ h.0.1, h.0.2), h.1),
      λ h. (case_candidate n (h.0, h.1, h.2), subst (λ z. Takes (pattern z) name) (same_rule h.0 h.1) h.3),
    )

    pub case_added : (name old new : List ℕ) → AreAdded (IsAtName case records name) old new →
        AreAdded (IsAtNameFor rules idle records name) old new
    case_added name old new added = record {
      ascending = added.ascending;
      members = λ n. (
        λ h. ⊎_elim inl (λ a. inr ((case_at name n).0 a)) ((added.members n).0 h),
        λ h. (added.members n).1 (⊎_elim inl (λ a. inr ((case_at name n).1 a)) h),
      );
    }

  pub none_added : ((rule : RuleValue) → IsRuleAt rules idle.rule rule → ⊥) → (name list : List ℕ) → IsAscending list →
      AreAdded (IsAtNameFor rules idle records name) list list
  none_added none name list up = record {
    ascending = up;
    members = λ n. (inl, ⊎_elim (λ h. h) (λ h. absurd (none h.0 h.1)));
  }

module _ (rules : List RuleValue) (cases : List IdleCase) (records : Records) (lists : List (Vec ℕ Global)) where
  -- the lists of the cases before the index have all candidates
  abbrev pub NoneMissingBefore : ℕ → Type 0
  NoneMissingBefore index = (i : ℕ) (idle : IdleCase) (n : ℕ) → i < index → slice_get cases i ≡ Some idle → IsAscending (list_at lists i) →
      IsCandidateFor rules idle records n → Contains (list_at lists i) n

  pub none_missing_more : (index : ℕ) (idle : IdleCase) → slice_get cases index ≡ Some idle →
      (IsAscending (list_at lists index) → (n : ℕ) → IsCandidateFor rules idle records n → Contains (list_at lists index) n) →
      NoneMissingBefore index → NoneMissingBefore (index + 1)
  none_missing_more index idle at one so_far i other n lt there up h = ⊎_elim
      (λ less. so_far i other n less there up h)
      (λ ge.
      let e : i ≡ index = omega (arith, ge, lt) in
      let same : other ≡ idle = same_Some other idle (sym there ∙ ap (slice_get cases) e ∙ at) in
      subst (λ z. Contains (list_at lists z) n) (sym e)
      (one (subst (λ z. IsAscending (list_at lists z)) e up) n (subst (λ z. IsCandidateFor rules z records n) same h)))
      (cases_lt i index)

module _ (rules : List RuleValue) (cases : List IdleCase) (records : Records) (name : List ℕ) (old : List (Vec ℕ Global)) where
  -- the lists of the cases before the index are done, and the others are as they were
  pub record AreNotedBefore (index : ℕ) (new : List (Vec ℕ Global)) : Type 0 where
    pub each : length new ≡ length old
    pub noted : (i : ℕ) (idle : IdleCase) → i < index → slice_get cases i ≡ Some idle → IsAscending (list_at old i) →
        AreAdded (IsAtNameFor rules idle records name) (list_at old i) (list_at new i)
    pub kept : (i : ℕ) → index ≤ i → list_at new i ≡ list_at old i

  pub noted_first : AreNotedBefore 0 old
  noted_first = record {
    each = refl;
    noted = λ i idle lt. absurd (omega (arith, lt));
    kept = λ i le. refl;
  }

  pub noted_last : (index : ℕ) (new : List (Vec ℕ Global)) → length cases ≤ index → AreNotedBefore index new →
      AreNotedAt rules cases records name old new
  noted_last index new past so_far = record {
    each = so_far.each;
    noted = λ i idle there up. so_far.noted i idle (omega (arith, past, slice_get_within cases i idle there)) there up;
  }

  -- the list with this index is done, and the others are as they were
  pub noted_next : (index : ℕ) (idle : IdleCase) (mid new : List (Vec ℕ Global)) → slice_get cases index ≡ Some idle →
      length new ≡ length mid → ((i : ℕ) → i ≢ index → list_at new i ≡ list_at mid i) →
      (IsAscending (list_at mid index) → AreAdded (IsAtNameFor rules idle records name) (list_at mid index) (list_at new index)) →
      AreNotedBefore index mid → AreNotedBefore (index + 1) new
  noted_next index idle mid new at same others one so_far =
      let was : list_at mid index ≡ list_at old index = so_far.kept index (omega arith) in record {
        each = same ∙ so_far.each;
        noted = λ i other lt there up. ⊎_elim
            (λ less. subst (AreAdded (IsAtNameFor rules other records name) (list_at old i))
            (sym (others i (λ e. omega (arith, e, less)))) (so_far.noted i other less there up))
            (λ ge.
            let e : index ≡ i = omega (arith, ge, lt) in
            let alike : idle ≡ other = same_Some idle other (sym at ∙ ap (slice_get cases) e ∙ there) in
            let added : AreAdded (IsAtNameFor rules idle records name) (list_at old index) (list_at new index) =
            subst (λ z. AreAdded (IsAtNameFor rules idle records name) z (list_at new index)) was
            (one (subst IsAscending (sym (was ∙ ap (list_at old) e)) up)) in
            subst (λ z. AreAdded (IsAtNameFor rules other records name) (list_at old z) (list_at new z)) e
            (subst (λ z. AreAdded (IsAtNameFor rules z records name) (list_at old index) (list_at new index)) alike added))
            (cases_lt i index);
        kept = λ i le. others i (λ e. omega (arith, e, le)) ∙ so_far.kept i (omega (arith, le));
      }

  -- a list that is written back
  list_here : (lists : List (Vec ℕ Global)) (i : ℕ) (d : Vec ℕ Global) → i < length lists → list_at lists i ≡ (get_or lists i d).items
  list_here lists i d lt = get_or-map (λ list. list.items) lists i d [] lt

  set_here : (lists : List (Vec ℕ Global)) (i : ℕ) (list : Vec ℕ Global) → i < length lists →
      list_at (slice_set lists i list) i ≡ list.items
  set_here lists i list lt =
      list_here (slice_set lists i list) i list (omega (arith, lt, length-set lists i list))
      ∙ ap (λ (z : Vec ℕ Global). z.items) (get_or-set_same lists i list list lt)

  set_other : (lists : List (Vec ℕ Global)) (i j : ℕ) (list : Vec ℕ Global) → j ≢ i →
      list_at (slice_set lists i list) j ≡ list_at lists j
  set_other lists i j list ne =
      ap (λ (z : List (List ℕ)). get_or z j []) (map-set (λ (list : Vec ℕ Global). list.items) lists i list)
      ∙ get_or-set_other (numbers_of lists) i j list.items [] ne

  pub noted_case : (index : ℕ) (idle : IdleCase) (case : Case) (mid : List (Vec ℕ Global)) (d list : Vec ℕ Global) →
      slice_get cases index ≡ Some idle → index < length mid → IsCaseOf rules idle case →
      (IsAscending (get_or mid index d).items → AreAdded (IsAtName case records name) (get_or mid index d).items list.items) →
      AreNotedBefore index mid → AreNotedBefore (index + 1) (slice_set mid index list)
  noted_case index idle case mid d list at lt is one so_far =
      let here = list_here mid index d lt in
      noted_next index idle mid (slice_set mid index list) at (length-set mid index list) (λ i ne. set_other mid index i list ne)
      (λ up. subst (λ z. AreAdded (IsAtNameFor rules idle records name) z (list_at (slice_set mid index list) index)) (sym here)
      (subst (AreAdded (IsAtNameFor rules idle records name) (get_or mid index d).items) (sym (set_here mid index list lt))
      (case_added rules idle records case is name (get_or mid index d).items list.items (one (subst IsAscending here up)))))
      so_far

  -- no rule has the number of the case
  pub noted_none : (index : ℕ) (idle : IdleCase) (mid : List (Vec ℕ Global)) → slice_get cases index ≡ Some idle →
      ((rule : RuleValue) → IsRuleAt rules idle.rule rule → ⊥) → AreNotedBefore index mid → AreNotedBefore (index + 1) mid
  noted_none index idle mid at none so_far = noted_next index idle mid mid at refl (λ i ne. refl)
      (λ up. none_added rules idle records none name (list_at mid index) up) so_far

module _ (rules : List RuleValue) (cases : List IdleCase) (records : Records) (lists : List (Vec ℕ Global)) where
  pub none_missing_case : (index : ℕ) (idle : IdleCase) (case : Case) (d : Vec ℕ Global) → slice_get cases index ≡ Some idle →
      index < length lists → IsCaseOf rules idle case →
      (IsAscending (get_or lists index d).items → (n : ℕ) → IsCandidate case records n → Contains (get_or lists index d).items n) →
      NoneMissingBefore rules cases records lists index → NoneMissingBefore rules cases records lists (index + 1)
  none_missing_case index idle case d at lt is one so_far =
      let here : list_at lists index ≡ (get_or lists index d).items = get_or-map (λ list. list.items) lists index d [] lt in
      none_missing_more rules cases records lists index idle at
      (λ up n h. subst (λ z. Contains z n) (sym here)
      (one (subst IsAscending here up) n (case_candidate rules idle records case is n h))) so_far

  pub none_missing_none : (index : ℕ) (idle : IdleCase) → slice_get cases index ≡ Some idle →
      ((rule : RuleValue) → IsRuleAt rules idle.rule rule → ⊥) →
      NoneMissingBefore rules cases records lists index → NoneMissingBefore rules cases records lists (index + 1)
  none_missing_none index idle at none so_far = none_missing_more rules cases records lists index idle at
      (λ up n h. absurd (none h.0 h.1)) so_far
