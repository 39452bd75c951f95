-- The numbers so far are those that the loop has passed.
use Rattle.std.proofs.Common.{◌≡◌, map, take}
use Rattle.answer_json.specs.Values.{number_value}
use Rattle.serde_json.specs.View.{view}
use Rattle.trace_audit.proofs.values.numbers_value.Given as goal

abbrev pub invariant-loop-number : goal.invariant-loop-number
invariant-loop-number l = map view l.values.items ≡ map number_value (take l.number-index l.numbers)
