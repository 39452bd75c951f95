-- The names of visits represent all names.
use Rattle.std.proofs.Common.{◌≡◌, ◌↔◌, ℕ, ◌<◌, ◌-◌, List, [], ◌∷◌, length, Some, slice_get, slice_index_or}
use Rattle.std.proofs.Common.{refl, sym, ap, ◌∙◌, subst, arith}
use Rattle.std.proofs.lemmas.List.Elements.{All-nil, All-cons}
use Rattle.std.proofs.lemmas.Option.{same_Some, slice_get_within, slice_get-get_or}
use Rattle.names.specs.Paths.{IsName}
use Rattle.rule_globs.specs.Glob.{Glob, Takes, LiveOrEnd, places}
use Rattle.rule_globs.specs.LiveSteps.{IsLeftFirst}
use Rattle.rule_globs.specs.Rules.{RuleValue, pattern}
use Rattle.rule_globs.specs.Verdict.{IsRuleAt}
use Rattle.automaton_rows.specs.Automata.{Automaton, state_after}
use Rattle.automaton_search.specs.declared.states.States.{States}
use Rattle.automaton_search.specs.Visits.{VisitsValue}
use Rattle.glob_automaton.specs.Automata.{IsAutomatonOf}
use Rattle.glob_automaton.specs.Least.{IsLeastRecord}
use Rattle.glob_automaton.specs.Sets.{IsLive, SameSet}
use Rattle.names.specs.declared.record.Record.{Record}
use Rattle.profile_questions.specs.declared.comparison.Records.{Records}
use Rattle.profile_questions.specs.Names.{AreLeastHits, AreRepresentatives, CompiledValue, IsAlike}
use Rattle.profile_questions.specs.inner.Comparisons.{IsComparison, compared}
use Rattle.profile_questions.proofs.LeastNames.{name_bytes}

at_index : (rules : List RuleValue) (n : ℕ) (rule : RuleValue) → IsRuleAt rules n rule → slice_get rules (n - 1) ≡ Some rule
at_index rules n rule at =
    slice_get-get_or rules (n - 1) rule (omega (arith, at.0, at.1)) ∙ ap Some (sym at.2)

-- a place of a rule at this number is live exactly if one is of the rule
one_live : (rules : List RuleValue) (name : List ℕ) (n p : ℕ) (rule : RuleValue) → IsRuleAt rules n rule →
    IsLive rules name n p → IsLeftFirst (pattern rule) name p
one_live rules name n p rule at live =
    subst (λ (r : RuleValue). IsLeftFirst (pattern r) name p)
    (same_Some live.0 rule (sym (at_index rules n live.0 live.1) ∙ at_index rules n rule at)) live.2

module _ (end : (g : Glob) (bytes : List ℕ) → Takes g bytes ↔ LiveOrEnd g bytes (places g))
    (left : (g : Glob) (bytes : List ℕ) (p : ℕ) → IsLeftFirst g bytes p ↔ LiveOrEnd g bytes p) where
  takes_too : (rules : List RuleValue) (one other : List ℕ) → SameSet rules one other →
      (n : ℕ) (rule : RuleValue) → IsRuleAt rules n rule → Takes (pattern rule) one → Takes (pattern rule) other
  takes_too rules one other same n rule at takes =
      let p = places (pattern rule) in
      let live : IsLive rules one n p = (rule, at, (left (pattern rule) one p).1 ((end (pattern rule) one).0 takes)) in
      (end (pattern rule) other).1 ((left (pattern rule) other p).0 (one_live rules other n p rule at ((same n p).0 live)))

  alike : (rules : List RuleValue) (one other : List ℕ) → SameSet rules one other → IsAlike rules one other
  alike rules one other same = λ n rule at. (
    takes_too rules one other same n rule at,
    takes_too rules other one (λ m p. ((same m p).1, (same m p).0)) n rule at,
  )

  alike_by_state : (rules : List RuleValue) (a : Automaton) → IsAutomatonOf rules a → (one other : List ℕ) → IsName one → IsName other →
      state_after a one ≡ state_after a other → IsAlike rules one other
  alike_by_state rules a is one other named was e =
      alike rules one other ((is.one_each one other (name_bytes one named) (name_bytes other was)).0 e)

  pub representatives : (one two three : CompiledValue) (all : VisitsValue) → IsComparison one two three all →
      AreRepresentatives (compared one two three all)
  representatives one two three all is = record {
    named = λ i name at.
        let s : States = slice_index_or all.states i (record { first = 0; second = 0; third = 0 }) in
        let lt = slice_get_within all.names i name at in
        (is.visits.named i s name (slice_get-get_or all.states i _ (omega (arith, lt, is.visits.each)), at)).0;
    ascending = is.visits.ascending;
    complete = λ name named.
        let visit = is.visits.complete name named in
        let by = is.visits.named visit.0 _ visit.1 visit.2 in (
          visit.0,
          visit.1,
          visit.2.1,
          visit.3,
          (
            alike_by_state one.rules one.automaton is.first name visit.1 named by.0 (ap (λ (s : States). s.first) by.1),
            alike_by_state two.rules two.automaton is.second name visit.1 named by.0 (ap (λ (s : States). s.second) by.1),
            alike_by_state three.rules three.automaton is.third name visit.1 named by.0 (ap (λ (s : States). s.third) by.1),
          ),
        );
  }

module _ (one two three : CompiledValue) (all : VisitsValue) (is : IsComparison one two three all) where
  -- the slash alone is a name
  pub some_visit : 0 < length all.states
  some_visit =
      let slash : IsName (47 ∷ []) = (refl, All-cons (λ b. (0 < b) × (b < 256)) 47 [] (omega arith, omega arith) (All-nil _)) in
      let visit = is.visits.complete (47 ∷ []) slash in
      omega (arith, slice_get_within all.states visit.0 _ visit.2.0)

  least_at : (rules : List RuleValue) (a : Automaton) → IsAutomatonOf rules a → (name : List ℕ) → IsName name → (s : ℕ) (r : Record) →
      s ≡ state_after a name → slice_get a.records s ≡ Some r → IsLeastRecord rules name r
  least_at rules a is name named s r e at =
      let least = is.least name (name_bytes name named) in
      subst (IsLeastRecord rules name)
      (same_Some least.0 r (sym least.1 ∙ ap (slice_get a.records) (sym e) ∙ at)) least.2

  pub least_hits : (i : ℕ) (s : States) (records : Records) → slice_get all.states i ≡ Some s →
      slice_get one.automaton.records s.first ≡ Some records.first →
      slice_get two.automaton.records s.second ≡ Some records.second →
      slice_get three.automaton.records s.third ≡ Some records.third →
      (name : List ℕ) × (slice_get all.names i ≡ Some name) × AreLeastHits (compared one two three all) name records
  least_hits i s records at r1 r2 r3 =
      let name : List ℕ = slice_index_or all.names i [] in
      let lt = slice_get_within all.states i s at in
      let there : slice_get all.names i ≡ Some name = slice_get-get_or all.names i [] (omega (arith, lt, is.visits.each)) in
      let by = is.visits.named i s name (at, there) in (
        name,
        there,
        record {
          first = least_at one.rules one.automaton is.first name by.0 s.first records.first (ap (λ (t : States). t.first) by.1) r1;
          second = least_at two.rules two.automaton is.second name by.0 s.second records.second (ap (λ (t : States). t.second) by.1) r2;
          third = least_at three.rules three.automaton is.third name by.0 s.third records.third (ap (λ (t : States). t.third) by.1) r3;
        },
      )
