-- What was read, and its outcome. Each line counted one at most.
use Rattle.std.proofs.Common.{◌≤◌}
use Rattle.glob_automaton.specs.Automata.{StateLimit}
use Rattle.trace_script.specs.Engine.{section_value}
use Rattle.trace_script.proofs.ScriptRuns.{IsRunning}
use Rattle.trace_script.proofs.follower.follow_script.Given as goal

abbrev pub invariant-loop-before : goal.invariant-loop-before
invariant-loop-before g l = record {
  few : g.L.LineFollower.counted l.follower l.on ≤ l.before;
  runs : (limit : StateLimit) → IsRunning (g.L.LineFollower.engine limit) (g.L.LineFollower.state l.initial.follower l.initial.on)
      (g.R.Read.remaining l.initial.input) (g.R.Read.remaining l.input)
      (g.A.Write.contents l.initial.answers) (g.A.Write.contents l.answers) (g.L.LineFollower.state l.follower l.on)
      (section_value l.section) l.before;
}
