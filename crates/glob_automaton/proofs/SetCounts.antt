-- The sets of a chart but the empty one, counted by front parts of names.
use Rattle.std.proofs.Common.{◌≡◌, ◌≢◌, ℕ, zero, suc, ◌+◌, ◌<◌, ◌≤◌, Bool, true, false, ◌||◌, eqb, List, [], ◌∷◌, length, slice_index_or}
use Rattle.std.proofs.Common.{All, refl, sym, ap, ◌∙◌, subst, arith, eqb-true, ne_eqb}
use Rattle.std.specs.List.{IsDistinct, AllByRecursion, list_any}
use Rattle.std.proofs.lemmas.List.Elements.{All-nil, All-cons}
use Rattle.std.proofs.lemmas.Map.Steps.{length-le_from_distinct_below}
use Rattle.rule_profile.specs.Profile.{RuleValue}
use Rattle.glob_automaton.specs.declared.chart.Chart.{Chart}
use Rattle.glob_automaton.specs.inner.ChartStates.{IsReached, AreSets}
use Rattle.glob_automaton.specs.inner.Drawings.{IsChartOf}
use Rattle.glob_automaton.specs.Sets.{NoneLive, IsPrefixOfName, AreDifferent}
use Rattle.glob_automaton.specs.laws.AscendingLists.{some_member}
use Rattle.glob_automaton.proofs.LiveByParts.{LeftFirst}
use Rattle.glob_automaton.proofs.LiveNumbers.{LiveAtFirst, LiveAfterByte}
use Rattle.glob_automaton.proofs.NamePrefixes.{EachWithSlash, prefix_of_name}
use Rattle.glob_automaton.proofs.ReachedSets.{equal_sets, empty_set}

-- ---- different numbers below a bound

values : (ℕ → ℕ) → ℕ → List ℕ
values f zero = []
values f (suc k) = f k ∷ values f k

length-values : (f : ℕ → ℕ) (k : ℕ) → length (values f k) ≡ k
unfolding values
length-values f zero = refl
length-values f (suc k) = ap suc (length-values f k)

others_differ : (f : ℕ → ℕ) (x k : ℕ) → ((i : ℕ) → i < k → f i ≢ x) → AllByRecursion (λ y. eqb x y ≡ false) (values f k)
unfolding values
others_differ f x zero h = tt
others_differ f x (suc k) h = (ne_eqb x (f k) (λ e. h k (omega arith) (sym e)), others_differ f x k (λ i lt. h i (omega (arith, lt))))

values_differ : (f : ℕ → ℕ) (k : ℕ) → ((i j : ℕ) → i < j → j < k → f i ≢ f j) → IsDistinct eqb (values f k)
unfolding values IsDistinct
values_differ f zero h = tt
values_differ f (suc k) h =
    (others_differ f (f k) k (λ i lt. h i k lt (omega arith)), values_differ f k (λ i j lt within. h i j lt (omega (arith, within))))

values_below : (f : ℕ → ℕ) (k n : ℕ) → ((i : ℕ) → i < k → f i < n) → (q : ℕ) → list_any (eqb q) (values f k) ≡ true → q < n
unfolding values
values_below f zero n h q is = absurd (cc is)
values_below f (suc k) n h q is =
    elim (eqb q (f k)) as (λ (b : Bool). eqb q (f k) ≡ b → (b || list_any (eqb q) (values f k)) ≡ true → q < n) [
      | true ↦ λ e r. omega (arith, eqb-true q (f k) e, h k (omega arith))
      | false ↦ λ e r. values_below f k n (λ i lt. h i (omega (arith, lt))) q r
    ] refl is

-- the number of different numbers below a bound is at most the bound
pub few_values : (f : ℕ → ℕ) (k n : ℕ) → ((i j : ℕ) → i < j → j < k → f i ≢ f j) → ((i : ℕ) → i < k → f i < n) → k ≤ n
few_values f k n differ below =
    omega (arith, length-values f k, length-le_from_distinct_below (values f k) n (values_differ f k differ) (values_below f k n below))

-- ---- a front part of a name for each set

module _ (first : LiveAtFirst) (after : LiveAfterByte) (by_steps : LeftFirst) (rules : List RuleValue) (chart : Chart)
    (is : IsChartOf rules chart) (slashes : EachWithSlash rules) (sets : List (List ℕ)) (are : AreSets chart sets) where
  -- only set 0 is empty
  not_empty : (i : ℕ) → 0 < i → i < length sets → ¬ (slice_index_or sets i [] ≡ [])
  not_empty i some lt e = are.different 0 i some lt (are.empty ∙ sym e)

  -- the prefixes that lead to the sets from this one on
  leading : (from left : ℕ) → 0 < from → from + left ≡ length sets →
      (prefixes : List (List ℕ)) × (length prefixes ≡ left) × All IsPrefixOfName prefixes
      × All (λ bytes. ¬ (NoneLive rules bytes)) prefixes × ((i : ℕ) → i < left → IsReached chart (slice_index_or prefixes i [])
      (slice_index_or sets (from + i) []))
  leading from zero some e = (
    [],
    refl,
    All-nil IsPrefixOfName,
    All-nil (λ bytes. ¬ (NoneLive rules bytes)),
    λ i lt. absurd
        (omega (arith, lt)),
  )
  leading from (suc left) some e =
      let w = are.reached from some (omega (arith, e)) in
      let rest = leading (from + 1) left (omega arith) (omega (arith, e)) in
      let empty = not_empty from some (omega (arith, e)) in
      let member = some_member (slice_index_or sets from []) empty in (
        w.0 ∷ rest.0,
        ap suc rest.1,
        All-cons IsPrefixOfName w.0 rest.0 (prefix_of_name first after rules chart w.0 (slice_index_or sets from []) w.1 is slashes
            member.0 member.1) rest.2,
        All-cons (λ bytes. ¬ (NoneLive rules bytes)) w.0 rest.0
            (λ none. empty ((empty_set first after by_steps rules chart is w.0 (slice_index_or sets from []) w.1).1 none)) rest.3,
        each from left w.0 rest.0 w.1 rest.4,
      )
    where
      each : (from left : ℕ) (one : List ℕ) (others : List (List ℕ)) → IsReached chart one (slice_index_or sets from []) →
          ((i : ℕ) → i < left → IsReached chart (slice_index_or others i []) (slice_index_or sets (from + 1 + i) [])) →
          (i : ℕ) → i < suc left → IsReached chart (slice_index_or (one ∷ others) i []) (slice_index_or sets (from + i) [])
      each from left one others h hs zero lt = subst (λ z. IsReached chart one (slice_index_or sets z [])) (omega arith) h
      each from left one others h hs (suc i) lt =
          subst (λ z. IsReached chart (slice_index_or others i []) (slice_index_or sets z [])) (omega arith) (hs i (omega (arith, lt)))

  -- as many different sets as there are, the empty one counted
  pub each_counted : (prefixes : List (List ℕ)) × AreDifferent rules prefixes × (length prefixes + 1 ≡ length sets)
  each_counted = elim (length sets) as (λ n. length sets ≡ n → (prefixes : List (List ℕ)) × AreDifferent rules prefixes
      × (length prefixes + 1 ≡ length sets)) [
        | zero ↦ λ e. absurd (omega (arith, e, are.some))
        | suc n ↦ λ e.
            let w = leading 1 n (omega arith) (omega (arith, e)) in (
              w.0,
              record {
                prefixes_of_names = w.2;
                some_live = w.3;
                different = λ i j lt within same. are.different (1 + i) (1 + j) (omega (arith, lt)) (omega (arith, within, e, w.1))
                    ((equal_sets first after by_steps rules chart is (slice_index_or w.0 i []) (slice_index_or w.0 j [])
                    (slice_index_or sets (1 + i) []) (slice_index_or sets (1 + j) []) (w.4 i (omega (arith, lt, within, w.1)))
                    (w.4 j (omega (arith, within, w.1)))).1 same);
              },
              omega (arith, e, w.1),
            )
      ] refl
