-- What isn't left was appended.
use Rattle.std.proofs.Common.{◌≡◌, ℕ, List, ◌++◌}
use Rattle.std.specs.Io.KnownBytes.{Appends}
use Rattle.trace_report.proofs.reports.write_through.Given as goal

abbrev pub invariant-loop : goal.invariant-loop
invariant-loop g l = (front : List ℕ) × (l.bytes ≡ front ++ l.left) × Appends (g.W.Write.contents l.initial.to)
    (g.W.Write.contents l.to) front
