use Rattle.std.proofs.Common.{◌∙◌}
use Rattle.automaton_rows.proofs.StatesAfter.{state_more}
use Rattle.automaton_rows.proofs.dfa.Dfa.record_after.Goals as goal

pub loop-byte-preserved : goal.loop-byte-preserved
loop-byte-preserved c = (
  c.target-state.ensures.there,
  c.target-state.ensures.target ∙ state_more c.args.self.now c.args.bytes.now c.loop-byte.byte-index c.loop-byte.state
      c.loop-byte-test.true c.loop-byte.invariant.1,
)
