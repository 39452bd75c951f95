use Rattle.std.proofs.Common.{◌≤◌, length, subst, sym, arith}
use Rattle.std.proofs.lemmas.Result.{IfOk-weaker}
use Rattle.glob_automaton.specs.inner.Leaves.{IsWithHits}
use Rattle.glob_automaton.proofs.WithHits.{all_with_hits}
use Rattle.glob_automaton.proofs.leaf.with_hits.Goals as goal

pub returns : goal.returns
returns c =
    let all : length c.args.dfa.now.rows ≤ c.loop-state.state = omega (arith, c.loop-state-test.false, c.states-state-end.ensures.count) in
    IfOk-weaker c.with_records.result _ _
    (λ d e. subst (IsWithHits c.args.hits.now c.args.dfa.now) (sym e)
    (all_with_hits c.args.hits.now c.args.dfa.now c.loop-state.records.items c.loop-state.state c.states-state-end.ensures.whole all
    c.loop-state.invariant.within c.loop-state.invariant.records))
    c.with_records.ensures
