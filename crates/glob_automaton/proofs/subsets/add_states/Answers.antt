-- One more state for each set, until there is one for each.
use Rattle.std.proofs.Common.{◌≡◌, ◌∙◌, ◌∷◌, [], ◌++◌, ◌+◌, ◌≤◌, ℕ, List, ap, sym, subst, subst₂, length, arith}
use Rattle.automaton_rows.specs.declared.range.TargetRange.{TargetRange}
use Rattle.names.specs.declared.record.Record.{Record}
use Rattle.glob_automaton.specs.inner.ChartStates.{IsRecordOf}
use Rattle.glob_automaton.specs.inner.States.{lists_of, AreStates, IsRowOfSet}
use Rattle.glob_automaton.proofs.BuiltStates.{one_state_more, built_states, no_more}
use Rattle.glob_automaton.proofs.subsets.add_states.Goals as goal
use Rattle.glob_automaton.proofs.subsets.add_states.Goals.{else-loop-state-test, then-loop-state-test+in_ok-copy+then-not-branch}

pub loop-state-preserved : goal.loop-state-preserved
loop-state-preserved c =
    let chart = c.args.chart.now in
    let sets = lists_of c.loop-state.sets in
    let new = lists_of c.add_row.new.sets in
    let set = c.copy.new.set.items in
    let states = c.loop-state.states in
    let row = c.in_ok-add_row.ensures.row.0 in
    let first : List ℕ = states.firsts.items ++ length states.ranges.items ∷ [] in
    let firsts : c.keep.new.list.items ≡ first = c.in_ok-keep.ensures ∙ ap (λ (z : ℕ). states.firsts.items ++ z ∷ [])
    c.count-first.ensures in
    let one : AreStates chart new (states.ranges.items ++ row) first (states.records.items ++ c.record_of.result ∷ []) states.start
    (c.loop-state.state + 1) =
    one_state_more chart sets new states.ranges.items row states.firsts.items states.records.items states.start c.loop-state.state set
    c.record_of.result c.loop-state.invariant.1 (c.in_ok-copy.ensures.there.0 c.if-not-branch.false)
    (c.in_ok-copy.ensures.set c.if-not-branch.false) c.in_ok-add_row.ensures.sets c.in_ok-add_row.ensures.kept
    (subst (λ z. IsRowOfSet chart new z row) c.deref.ensures.value c.in_ok-add_row.ensures.row.2)
    (subst (λ z. IsRecordOf chart z c.record_of.result) c.deref-in-loop-state.ensures.value c.record_of.ensures) in (
      c.in_ok-add_row.ensures.gathering,
      subst (λ (z : List TargetRange). AreStates chart new z c.keep.new.list.items c.keep-in-loop-state.new.list.items states.start
          (c.loop-state.state + 1))
          (sym c.in_ok-add_row.ensures.row.1)
          (subst₂ (λ (x : List ℕ) (y : List Record). AreStates chart new (states.ranges.items ++ row) x y states.start
          (c.loop-state.state + 1)) (sym firsts)
          (sym c.in_ok-keep-2.ensures) one),
    )

pub returns-clause-ok : goal.returns-clause-ok
returns-clause-ok c =
    let sets = lists_of c.loop-state.sets in
    let are = c.loop-state.invariant.1 in
    let all : length sets ≤ c.loop-state.state =
    elim c.loop-state-test.branch [
      | else-loop-state-test w ↦ omega (arith, w.loop-state-test.false, are.sets_few.1)
      | then-loop-state-test+in_ok-copy+then-not-branch w ↦
          no_more w.in_ok-copy.field-0 c.loop-state.state (length sets) w.in_ok-copy.ensures.there w.if-not-branch.true
    ] in
    built_states c.args.chart.now sets c.loop-state.states.ranges.items c.loop-state.states.firsts.items c.loop-state.states.records.items
    c.loop-state.states.start c.loop-state.state are all
