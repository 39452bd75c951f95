-- The numbers so far are those of the bytes that the loop has passed.
use Rattle.std.proofs.Common.{◌≡◌, map, take}
use Rattle.answer_json.specs.Values.{number_value}
use Rattle.serde_json.specs.View.{view}
use Rattle.answer_json.proofs.name_values.byte_numbers.Given as goal

abbrev pub invariant-loop-byte : goal.invariant-loop-byte
invariant-loop-byte l = map view l.numbers.items ≡ map number_value (take l.byte-index l.bytes)
