-- States of three automata, and the names that lead to them.
use Rattle.std.proofs.Common.{◌≡◌, ⊎_elim, ℕ, ◌<◌, ◌≤◌, List, [], ◌∷◌, ◌++◌, length, Some, slice_get, slice_index_or}
use Rattle.std.proofs.Common.{Result, Ok, Err, IfErr, IsErrAnd, refl, sym, ap, ◌∙◌, subst, arith}
use Rattle.std.proofs.lemmas.List.{length-append}
use Rattle.std.proofs.lemmas.List.Elements.{All-head, All-tail}
use Rattle.std.proofs.lemmas.Option.{slice_get_within, slice_get-get_or}
use Rattle.names.specs.Bytes.{are_bytes}
use Rattle.names.specs.Paths.{IsName}
use Rattle.automaton_rows.specs.Automata.{Automaton, IsWhole, target, goes_to}
use Rattle.automaton_rows.specs.declared.range.TargetRange.{TargetRange}
use Rattle.automaton_rows.specs.Rows.{target_in}
use Rattle.automaton_search.specs.declared.fault.SearchFault.{SearchFault}
use Rattle.automaton_search.specs.declared.fault.SearchFault.TheVariants.{TooManyStates, NoMemory}
use Rattle.automaton_search.specs.declared.states.States.{States}
use Rattle.automaton_search.specs.declared.walk.Trail.{Trail}
use Rattle.automaton_search.specs.Visits.{IsSearchFault, next_states, start_states, states_after}
use Rattle.automaton_search.specs.inner.Walks.{IsVisitFault, IsWalkAt, led}
use Rattle.automaton_search.specs.laws.Lists.{distinct_more, get_either}
use Rattle.automaton_search.proofs.NameLaws.{name_bytes, name_more}
use Rattle.automaton_search.proofs.WalkLaws.{led_one_more}

abbrev pub states : ℕ → ℕ → ℕ → States
states x y z = record { first = x; second = y; third = z }

-- a fault that is passed on
pub passed_on : {T E : Type 0} (r : Result T E) (e : E) (P : E → Type 0) → IsErrAnd r (λ y. y ≡ e) → P e → IfErr r P
passed_on {T} {E} (Ok x) e P is h = absurd is
passed_on {T} {E} (Err y) e P is h = subst P (sym is) h

module _ (a b c : Automaton) where
  pub led_all : (s : States) (bytes : List ℕ) →
      led (next_states a b c) s bytes ≡ states (goes_to a s.first bytes) (goes_to b s.second bytes) (goes_to c s.third bytes)
  led_all s [] = refl
  led_all s (d ∷ bytes) = led_all (next_states a b c s d) bytes

  -- each byte of a step leads to its target
  pub step_states : (s t : States) (first second third : List TargetRange) (from last : ℕ) →
      ((d : ℕ) → d ≤ last → target_in first d ≡ t.first) → ((d : ℕ) → d ≤ last → target_in second d ≡ t.second) →
      ((d : ℕ) → d ≤ last → target_in third d ≡ t.third) →
      ((d : ℕ) → from ≤ d → d < 256 → target_in first d ≡ target a s.first d) →
      ((d : ℕ) → from ≤ d → d < 256 → target_in second d ≡ target b s.second d) →
      ((d : ℕ) → from ≤ d → d < 256 → target_in third d ≡ target c s.third d) →
      last < 256 → (d : ℕ) → from ≤ d → d ≤ last → next_states a b c s d ≡ t
  step_states s t first second third from last one two three in_first in_second in_third small d low high =
      let within : d < 256 = omega (arith, high, small) in
      ap (λ x. states x (target b s.second d) (target c s.third d)) (sym (in_first d low within) ∙ one d high)
      ∙ ap (λ y. states t.first y (target c s.third d)) (sym (in_second d low within) ∙ two d high)
      ∙ ap (λ z. states t.first t.second z) (sym (in_third d low within) ∙ three d high)

  goes_there : (a : Automaton) (s : ℕ) (bytes : List ℕ) → IsWhole a → s < length a.rows → are_bytes bytes →
      goes_to a s bytes < length a.rows
  goes_there a s [] whole lt small = lt
  goes_there a s (d ∷ bytes) whole lt small =
      goes_there a (target a s d) bytes whole (whole.targets s d lt (All-head (λ e. e < 256) d bytes small))
      (All-tail (λ e. e < 256) d bytes small)

  after_there : (a : Automaton) (name : List ℕ) → IsWhole a → IsName name → goes_to a a.start name < length a.rows
  after_there a name whole is = goes_there a a.start name whole whole.start_there (name_bytes name is)

  module _ (all : List States) (trails : List Trail) (i n : ℕ)
      (walk : IsWalkAt (next_states a b c) (start_states a b c) all trails i n) where
    -- a name that leads to visited states
    pub led_by : (j : ℕ) (s : States) → slice_get all j ≡ Some s → (name : List ℕ) × (slice_get walk.0 j ≡ Some name) × IsName name
        × (s ≡ states_after a b c name)
    led_by j s at =
        let name : List ℕ = slice_index_or walk.0 j [] in
        let here : slice_get walk.0 j ≡ Some name =
        slice_get-get_or walk.0 j [] (omega (arith, slice_get_within all j s at, walk.1.named.each, walk.1.each)) in
        let h = walk.1.leads j s name (at, here) in
        (name, here, h.0, sym h.1 ∙ led_all (start_states a b c) name)

    -- visited states are states
    pub there : IsWhole a → IsWhole b → IsWhole c → (j : ℕ) (s : States) → slice_get all j ≡ Some s →
        (s.first < length a.rows) × (s.second < length b.rows) × (s.third < length c.rows)
    there one two three j s at =
        let h = led_by j s at in (
          subst (λ (t : States). t.first < length a.rows) (sym h.3) (after_there a h.0 one h.2),
          subst (λ (t : States). t.second < length b.rows) (sym h.3) (after_there b h.0 two h.2),
          subst (λ (t : States). t.third < length c.rows) (sym h.3) (after_there c h.0 three h.2),
        )

    -- one more state than may be visited
    pub search_fault : (s : States) (j d : ℕ) (from : States) → slice_get all j ≡ Some from → 0 < d → d < 256 →
        s ≡ next_states a b c from d → (fault : SearchFault) → IsVisitFault all s fault → IsSearchFault a b c fault
    search_fault s j d from at some small next NoMemory h = tt
    search_fault s j d from at some small next TooManyStates h = (
      all ++ s ∷ [],
      record {
        distinct = distinct_more all s h.1 h.2;
        reached = λ k t here. ⊎_elim
            (λ old. let by = led_by k t old in (by.0, by.2, by.3))
            (λ new.
            let by = led_by j from at in (
              by.0 ++ d ∷ [],
              name_more by.0 d by.2 (some, small),
              sym new.1 ∙ next ∙ ap (λ (z : States). next_states a b c z d) (by.3 ∙ sym (led_all (start_states a b c) by.0))
                  ∙ sym (led_one_more (next_states a b c) (start_states a b c) by.0 d)
                  ∙ led_all (start_states a b c) (by.0 ++ d ∷ []),
            ))
            (get_either all s t k here);
      },
      omega (arith, h.0, length-append all (s ∷ [])),
    )
