-- Each of the names is that of the part.
use Rattle.std.proofs.Common.{rules, ◌≡◌, ◌+◌, ◌-◌, arith}
use Rattle.table_batches.specs.Batches.{AreOffsets}
use Rattle.image_judge.proofs.Parts.{name_of}
use Rattle.image_judge.proofs.batch.offsets_of.Goals as goal

pub returns-then-are_offsets-clause-names : goal.returns-then-are_offsets-clause-names
returns-then-are_offsets-clause-names c = λ i lt.
    let found = c.in_ok-part.ensures.lookup.0 in
    let are : AreOffsets c.args.names.now c.in_ok-part.part.now (c.args.last - c.args.first) = search rules in
    let last : c.in_ok-checked_add.field-0 ≡ c.args.last + 1 = search rules in
    name_of c.args.names.now c.args.offsets.now c.in_ok-part.part.now c.args.first c.in_ok-checked_add.field-0 i found.2
    (omega (arith, lt, last, c.requires)) found.1 (are.ascend i lt) (are.within (i + 1) (omega (arith, lt)))
