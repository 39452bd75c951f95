-- What was read was appended.
use Rattle.std.proofs.Common.{◌≡◌, ℕ, ◌≤◌, List, ◌++◌, length}
use Rattle.std.specs.Io.KnownBytes.{Consumes}
use Rattle.trace_commands.proofs.image_reader.read_up_to.Given as goal

abbrev pub invariant-loop : goal.invariant-loop
invariant-loop g l = (read : List ℕ) × Consumes (g.R.Read.remaining l.initial.input) (g.R.Read.remaining l.input) read
    × (l.bytes.items ≡ l.initial.bytes.items ++ read) × (length l.bytes.items ≤ l.most)
