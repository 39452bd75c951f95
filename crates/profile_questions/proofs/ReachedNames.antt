-- Names that lead to different states have different sets of live places.
use Rattle.std.proofs.Common.{map, option_map}
use Rattle.std.proofs.Common.{◌≡◌, ℕ, zero, suc, List, [], ◌∷◌, length, Some, slice_get, Result, Ok, Err, IfErr, IsErrAnd}
use Rattle.std.proofs.Common.{slice_index_or, refl, sym, ap, ◌∙◌, subst, arith}
use Rattle.std.specs.List.{All}
use Rattle.std.proofs.lemmas.List.Elements.{All-nil, All-cons}
use Rattle.std.proofs.lemmas.List.{length-map}
use Rattle.std.proofs.lemmas.Option.{none-some, same_Some, slice_get-map, slice_get_within, slice_get-get_or}
use Rattle.names.specs.Paths.{IsName}
use Rattle.rule_globs.specs.Rules.{RuleValue}
use Rattle.automaton_rows.specs.Automata.{Automaton, state_after}
use Rattle.automaton_search.specs.declared.fault.SearchFault.{SearchFault}
use Rattle.automaton_search.specs.declared.fault.SearchFault.TheVariants as searching
use Rattle.automaton_search.specs.declared.states.States.{States}
use Rattle.automaton_search.specs.Visits.{AreReached, IsSearchFault, states_after}
use Rattle.glob_automaton.specs.Automata.{IsAutomatonOf}
use Rattle.profile_questions.specs.declared.fault.QuestionFault.TheVariants.{TooManyStates}
use Rattle.profile_questions.specs.Faults.{AreApart, IsQuestionFault, IsSameEverywhere, of_search}
use Rattle.profile_questions.proofs.LeastNames.{name_bytes}

module _ (a b c : Automaton) where
  -- for each of these states a name that leads there
  record AreNamesOf (all : List States) (names : List (List ℕ)) : Type 0 where
    each : length names ≡ length all
    named : All IsName names
    lead : (i : ℕ) (s : States) (name : List ℕ) → slice_get all i ≡ Some s → slice_get names i ≡ Some name → s ≡ states_after a b c name

  names_for : (all : List States) →
      ((i : ℕ) (s : States) → slice_get all i ≡ Some s → (name : List ℕ) × IsName name × (s ≡ states_after a b c name)) →
      (names : List (List ℕ)) × AreNamesOf all names
  names_for [] reached = (
    [],
    record {
      each = refl;
      named = All-nil IsName;
      lead = λ i s name at there. absurd (none-some s at);
    },
  )
  names_for (s ∷ all) reached =
      let first = reached 0 s refl in
      let rest = names_for all (λ i t at. reached (suc i) t at) in (
        first.0 ∷ rest.0,
        record {
          each = ap suc rest.1.each;
          named = All-cons IsName first.0 rest.0 first.1 rest.1.named;
          lead = lead_more s all first.0 rest.0 first.2 rest.1.lead;
        },
      )
    where
      lead_more : (s : States) (all : List States) (name : List ℕ) (names : List (List ℕ)) → s ≡ states_after a b c name →
          ((i : ℕ) (t : States) (other : List ℕ) → slice_get all i ≡ Some t → slice_get names i ≡ Some other →
          t ≡ states_after a b c other) →
          (i : ℕ) (t : States) (other : List ℕ) → slice_get (s ∷ all) i ≡ Some t → slice_get (name ∷ names) i ≡ Some other →
          t ≡ states_after a b c other
      lead_more s all name names is lead zero t other at there =
          sym (same_Some s t at) ∙ is ∙ ap (states_after a b c) (same_Some name other there)
      lead_more s all name names is lead (suc i) t other at there = lead i t other at there

  module _ (one two three : List RuleValue) (first : IsAutomatonOf one a) (second : IsAutomatonOf two b)
      (third : IsAutomatonOf three c) where
    same_states : (name other : List ℕ) → IsName name → IsName other → IsSameEverywhere one two three name other →
        states_after a b c name ≡ states_after a b c other
    same_states name other is was same =
        ap (λ x. record { first = x; second = state_after b name; third = state_after c name })
        ((first.one_each name other (name_bytes name is) (name_bytes other was)).1 same.0)
        ∙ ap (λ y. record { first = state_after a other; second = y; third = state_after c name })
        ((second.one_each name other (name_bytes name is) (name_bytes other was)).1 same.1)
        ∙ ap (λ z. record { first = state_after a other; second = state_after b other; third = z })
        ((third.one_each name other (name_bytes name is) (name_bytes other was)).1 same.2)

    is_named : (names : List (List ℕ)) → All IsName names → (i : ℕ) (name : List ℕ) → slice_get names i ≡ Some name → IsName name
    is_named names all i name at =
        let lt = slice_get_within names i name at in
        subst IsName (same_Some (slice_index_or names i []) name (sym (slice_get-get_or names i [] lt) ∙ at)) (all i [] lt)

    apart : (all : List States) (names : List (List ℕ)) → AreReached a b c all → AreNamesOf all names → AreApart one two three names
    apart all names reached are = record {
      named = are.named;
      apart = λ i j name other lt at there same.
          let s : States = slice_index_or all i (states_after a b c []) in
          let t : States = slice_index_or all j (states_after a b c []) in
          let there_j = slice_get_within names j other there in
          let at_i : slice_get all i ≡ Some s = slice_get-get_or all i (states_after a b c []) (omega (arith, lt, there_j, are.each)) in
          let at_j : slice_get all j ≡ Some t = slice_get-get_or all j (states_after a b c []) (omega (arith, there_j, are.each)) in
          let e : s ≡ t = are.lead i s name at_i at
          ∙ same_states name other (is_named names are.named i name at) (is_named names are.named j other there) same
          ∙ sym (are.lead j t other at_j there) in
          reached.distinct i j s lt at_i (at_j ∙ ap Some (sym e));
    }

    pub search_fault : (fault : SearchFault) → IsSearchFault a b c fault → IsQuestionFault one two three (of_search fault)
    search_fault searching.NoMemory h = tt
    search_fault searching.TooManyStates h =
        let names = names_for h.0 h.1.reached in
        (names.0, apart h.0 names.0 h.1 names.1, omega (arith, h.2, names.1.each))

    -- names that lead to the same states have the same live places
    same_places : (name other : List ℕ) → IsName name → IsName other → states_after a b c name ≡ states_after a b c other →
        IsSameEverywhere one two three name other
    same_places name other is was e = (
      (first.one_each name other (name_bytes name is) (name_bytes other was)).0 (ap (λ (s : States). s.first) e),
      (second.one_each name other (name_bytes name is) (name_bytes other was)).0 (ap (λ (s : States). s.second) e),
      (third.one_each name other (name_bytes name is) (name_bytes other was)).0 (ap (λ (s : States). s.third) e),
    )

    -- the name that has led to one of these states
    name_at : (names : List (List ℕ)) (i : ℕ) (s : States) → slice_get (map (states_after a b c) names) i ≡ Some s →
        (name : List ℕ) × (slice_get names i ≡ Some name) × (states_after a b c name ≡ s)
    name_at names i s at =
        let within = slice_get_within (map (states_after a b c) names) i s at in
        let there : slice_get names i ≡ Some (slice_index_or names i []) =
        slice_get-get_or names i [] (omega (arith, within, length-map names (states_after a b c))) in (
          slice_index_or names i [],
          there,
          same_Some (states_after a b c (slice_index_or names i [])) s
              (sym (ap (option_map (states_after a b c)) there) ∙ sym (slice_get-map (states_after a b c) names i) ∙ at),
        )

    -- names that are apart lead to different states
    reached_by : (names : List (List ℕ)) → AreApart one two three names → AreReached a b c (map (states_after a b c) names)
    reached_by names are = record {
      distinct = λ i j s lt at there.
          let x = name_at names i s at in
          let y = name_at names j s there in
          are.apart i j x.0 y.0 lt x.1 y.1
          (same_places x.0 y.0 (is_named names are.named i x.0 x.1) (is_named names are.named j y.0 y.1) (x.2 ∙ sym y.2));
      reached = λ i s at. let x = name_at names i s at in (x.0, is_named names are.named i x.0 x.1, sym x.2);
    }

    -- where the search isn't refused, the question isn't
    pub no_fault : ¬ (IsSearchFault a b c searching.TooManyStates) → ¬ (IsQuestionFault one two three TooManyStates)
    no_fault none fault =
        none (
          map (states_after a b c) fault.0,
          reached_by fault.0 fault.1,
          omega (arith, fault.2, length-map fault.0 (states_after a b c)),
        )

-- a fault that is passed on
pub passed_on : {T E : Type 0} (r : Result T E) (e : E) (P : E → Type 0) → IsErrAnd r (λ y. y ≡ e) → P e → IfErr r P
passed_on {T} {E} (Ok x) e P is h = absurd is
passed_on {T} {E} (Err y) e P is h = subst P (sym is) h
