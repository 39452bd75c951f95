-- What comes before the parts that are left, and what comes before the word in them.
use Rattle.std.proofs.Common.{◌≡◌, ◌+◌, drop}
use Rattle.import_scope.specs.ItemWords.{is_name_part, bytes_before}
use Rattle.import_scope.proofs.item_words.name_part_place.Given as goal

abbrev pub invariant-loop-part : goal.invariant-loop-part
invariant-loop-part l = l.place + bytes_before is_name_part (drop l.part-index l.parts) ≡ l.before + bytes_before is_name_part l.parts
