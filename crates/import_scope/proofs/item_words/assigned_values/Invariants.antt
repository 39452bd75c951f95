-- The values so far, and those of the parts that are left, are all.
use Rattle.std.proofs.Common.{◌≡◌, ◌++◌, map, drop}
use Rattle.import_scope.specs.ItemWords.{assigned_values}
use Rattle.import_scope.proofs.item_words.assigned_values.Given as goal

abbrev pub invariant-loop-part : goal.invariant-loop-part
invariant-loop-part l = map (λ value. value.now) l.values.items ++ assigned_values (drop l.part-index l.parts) ≡ assigned_values l.parts
