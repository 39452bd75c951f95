-- The sets so far with one more, and what a byte leads to from one of them.
use Rattle.std.proofs.Common.{◌≡◌, ◌⊎◌, inl, inr, ⊎_elim, ℕ, ◌+◌, ◌<◌, ◌≤◌, List, [], ◌∷◌, ◌++◌, length, slice_index_or, Contains, Result}
use Rattle.std.proofs.Common.{Ok, Err, IfOk, IfErr, OnOk, sym, ap, ◌∙◌, subst, arith}
use Rattle.std.proofs.Math.Seq.{get_or-append_seam}
use Rattle.std.proofs.lemmas.List.{length-append, append-nil, append_assoc, get_or_append_left, get_or_default}
use Rattle.std.proofs.lemmas.Bool.{cases_lt}
use Rattle.glob_automaton.specs.declared.chart.Chart.{Chart}
use Rattle.automaton_rows.specs.declared.fault.CompileFault.{CompileFault}
use Rattle.automaton_rows.specs.declared.fault.CompileFault.TheVariants.{TooManyStates, NoMemory}
use Rattle.glob_automaton.specs.inner.ChartStates.{IsStepOf, IsReached, goes_on, AreSets, IsBuildFault}
use Rattle.glob_automaton.specs.inner.States.{IsNumbered, IsNumberFault, AreFewSets, Keeps, IsTargetOf}
use Rattle.glob_automaton.specs.laws.AscendingLists.{no_members, contains_none}

-- some bytes reach the set, or it is empty
abbrev pub IsEmptyOrReached : Chart → List ℕ → Type 0
IsEmptyOrReached chart set = (set ≡ []) ⊎ ((bytes : List ℕ) × IsReached chart bytes set)

-- a list with one more element
length_more : (sets : List (List ℕ)) (set : List ℕ) → length (sets ++ set ∷ []) ≡ length sets + 1
length_more sets set = length-append sets (set ∷ [])

-- what is at an index is in the list
pub set_there : (sets : List (List ℕ)) (i : ℕ) → i < length sets → Contains sets (slice_index_or sets i [])
set_there sets i lt = (i, lt, get_or_default sets i (slice_index_or sets i []) [] lt)

-- the elements before the new one are what they were
as_before : (sets : List (List ℕ)) (set : List ℕ) (i : ℕ) → i < length sets → slice_index_or (sets ++ set ∷ []) i []
    ≡ slice_index_or sets i []
as_before sets set i lt = get_or_append_left sets (set ∷ []) [] i lt

-- the last one is the new one
last_is : (sets : List (List ℕ)) (set : List ℕ) (i : ℕ) → i < length (sets ++ set ∷ []) → length sets ≤ i →
    slice_index_or (sets ++ set ∷ []) i [] ≡ set
last_is sets set i lt le =
    let at : i ≡ length sets = omega (arith, lt, le, length_more sets set) in
    ap (λ z. slice_index_or (sets ++ set ∷ []) z []) at ∙ get_or-append_seam sets set [] []

-- A set that bytes reach and that isn't there yet comes after the others.
pub one_more : (chart : Chart) (sets : List (List ℕ)) (bytes set : List ℕ) → AreSets chart sets → IsReached chart bytes set →
    ¬ (Contains sets set) → AreSets chart (sets ++ set ∷ [])
one_more chart sets bytes set are reached new = record {
  some = omega (arith, are.some, length_more sets set);
  empty = as_before sets set 0 are.some ∙ are.empty;
  different = λ i j lt within same. ⊎_elim
      (λ below. are.different i j lt below
      (sym (as_before sets set i (omega (arith, lt, below))) ∙ same ∙ as_before sets set j below))
      (λ le. let first : i < length sets = omega (arith, lt, within, length_more sets set) in
      new (subst (λ z. Contains sets z) (sym (as_before sets set i first) ∙ same ∙ last_is sets set j within le) (set_there sets i first)))
      (cases_lt j (length sets));
  reached = λ i positive within. ⊎_elim
      (λ below. subst (λ z. (x : List ℕ) × IsReached chart x z) (sym (as_before sets set i below)) (are.reached i positive below))
      (λ le. subst (λ z. (x : List ℕ) × IsReached chart x z) (sym (last_is sets set i within le)) (bytes, reached))
      (cases_lt i (length sets));
}

-- the empty set is there
pub empty_there : (chart : Chart) (sets : List (List ℕ)) → AreSets chart sets → Contains sets []
empty_there chart sets are = (0, are.some, are.empty)

-- A set that isn't there yet comes after the others, if bytes reach it. (The empty one is there.)
pub one_more_of : (chart : Chart) (sets : List (List ℕ)) (set : List ℕ) → AreSets chart sets → IsEmptyOrReached chart set →
    ¬ (Contains sets set) → AreSets chart (sets ++ set ∷ [])
one_more_of chart sets set are from new = ⊎_elim
    (λ empty. absurd (new (subst (λ z. Contains sets z) (sym empty) (empty_there chart sets are))))
    (λ h. one_more chart sets h.0 set are h.1 new)
    from

-- Once a set has its number, the sets are sets still.
pub numbered_sets : (chart : Chart) (old new : List (List ℕ)) (set : List ℕ) (number : ℕ) → AreFewSets chart old →
    IsEmptyOrReached chart set → IsNumbered old new set number →
    AreFewSets chart new × Keeps old new × (number < length new) × (slice_index_or new number [] ≡ set)
numbered_sets chart old new set number are from is = (
  (
    ⊎_elim
        (λ same. subst (λ z. AreSets chart z) (sym same) are.0)
        (λ more. subst (λ z. AreSets chart z) (sym more.0) (one_more_of chart old set are.0 from more.1))
        is.grows,
    is.few,
  ),
  ⊎_elim (λ same. ([], same ∙ sym (append-nil old))) (λ more. (set ∷ [], more.0)) is.grows,
  is.there,
  is.at,
)

-- Where a set has no number because there is no room, there are too many sets.
pub too_many_sets : (chart : Chart) (old : List (List ℕ)) (set : List ℕ) (fault : CompileFault) → AreFewSets chart old →
    IsEmptyOrReached chart set → IsNumberFault old set fault → IsBuildFault chart fault
too_many_sets chart old set TooManyStates are from is =
    (old ++ set ∷ [], one_more_of chart old set are.0 from is.2, omega (arith, is.0, length_more old set))
too_many_sets chart old set NoMemory are from is = tt

-- nothing follows the empty set
pub step_empty : (chart : Chart) (b : ℕ) (next : List ℕ) → IsStepOf chart [] b next → next ≡ []
step_empty chart b next step = no_members next (λ q h. let w = (step.live q).0 h in contains_none w.0 w.2)

-- a set that is there is empty, or bytes reach it
pub set_from : (chart : Chart) (sets : List (List ℕ)) (set : List ℕ) → AreSets chart sets → Contains sets set → IsEmptyOrReached chart set
set_from chart sets set are there =
    let at : slice_index_or sets there.0 [] ≡ set = get_or_default sets there.0 [] set there.1 ∙ there.2 in ⊎_elim
    (λ positive. inr (subst (λ z. (x : List ℕ) × IsReached chart x z) at (are.reached there.0 positive there.1)))
    (λ le. let zero : there.0 ≡ 0 = omega (arith, le) in inl (sym at ∙ ap (λ z. slice_index_or sets z []) zero ∙ are.empty))
    (cases_lt 0 there.0)

-- and so is what follows it
pub step_from : (chart : Chart) (set next : List ℕ) (b : ℕ) → IsEmptyOrReached chart set → b < 256 → IsStepOf chart set b next →
    IsEmptyOrReached chart next
step_from chart set next b from small step = ⊎_elim
    (λ empty. inl (step_empty chart b next (subst (λ z. IsStepOf chart z b next) empty step)))
    (λ h. inr (h.0 ++ b ∷ [], goes_on chart h.0 set next b h.1 small step))
    from

-- the sets that were there are kept on
pub keeps_on : (old mid new : List (List ℕ)) → Keeps old mid → Keeps mid new → Keeps old new
keeps_on old mid new first then =
    (first.0 ++ then.0, then.1 ∙ ap (λ z. z ++ then.0) first.1 ∙ append_assoc old first.0 then.0)

-- a target stays one
pub still_target : (chart : Chart) (old new : List (List ℕ)) (set : List ℕ) (b target : ℕ) → Keeps old new →
    IsTargetOf chart old set b target → IsTargetOf chart new set b target
still_target chart old new set b target kept is =
    let same : slice_index_or new target [] ≡ slice_index_or old target [] =
    ap (λ z. slice_index_or z target []) kept.1 ∙ get_or_append_left old kept.0 [] target is.0 in (
      omega (arith, is.0, ap (λ z. length z) kept.1, length-append old kept.0),
      subst (λ z. IsStepOf chart set b z) (sym same) is.1,
    )

-- what the number of a step says, and why it has none
module _ (chart : Chart) (old new : List (List ℕ)) (set next places : List ℕ) (b : ℕ) (are : AreFewSets chart old)
    (there : Contains old set)
    (small : b < 256) (step : IsStepOf chart set b next) (same : places ≡ next) where
  from_set : IsEmptyOrReached chart places
  from_set = subst (λ z. IsEmptyOrReached chart z) (sym same) (step_from chart set next b (set_from chart old set are.0 there) small step)

  pub target_sets : (r : Result ℕ CompileFault) → IfOk r (IsNumbered old new places) → OnOk r (AreFewSets chart new)
  target_sets (Ok number) is = (numbered_sets chart old new places number are from_set is).0
  target_sets (Err fault) is = tt

  pub target_fault : (r : Result ℕ CompileFault) → IfErr r (IsNumberFault old places) → IfErr r (IsBuildFault chart)
  target_fault (Ok number) is = tt
  target_fault (Err fault) is = too_many_sets chart old places fault are from_set is
