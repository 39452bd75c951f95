-- The state after the bytes so far.
use Rattle.std.proofs.Common.{◌≡◌, ◌<◌, length, take}
use Rattle.automaton_rows.specs.Automata.{state_after}
use Rattle.automaton_rows.proofs.dfa.Dfa.record_after.Given as goal

abbrev pub invariant-loop-byte : goal.invariant-loop-byte
invariant-loop-byte l = (l.state < length l.self.rows) × (l.state ≡ state_after l.self (take l.byte-index l.bytes))
