-- The place is that of the current byte.
use Rattle.std.proofs.Common.{◌≡◌, ◌+◌}
use Rattle.rule_explain.specs.Places.{place_at}
use Rattle.import_origins.proofs.places.place_from.Given as goal

abbrev pub invariant-loop-byte : goal.invariant-loop-byte
invariant-loop-byte l = l.place ≡ place_at l.text (l.start + l.byte-index)
