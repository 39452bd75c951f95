-- What was pushed and what the rest becomes are the whole.
use Rattle.std.proofs.Common.{◌≡◌, ◌++◌, drop, false}
use Rattle.apparmor_pieces.specs.Slashes.{runs_joined}
use Rattle.apparmor_pieces.proofs.slashes.push_joined.Given as goal

abbrev pub invariant-loop-byte : goal.invariant-loop-byte
invariant-loop-byte l = l.one.items ++ runs_joined l.behind (drop l.byte-index l.text) ≡ l.fn.one.items ++ runs_joined false l.text
