-- The number is where its list has it.
use Rattle.std.proofs.Common.{Some, ap, sym, ◌∙◌, arith}
use Rattle.tables.proofs.Places.{first_number_there}
use Rattle.tables.proofs.image.Numbers.at.Goals as goal

pub overflow_mul-place : goal.overflow_mul-place
overflow_mul-place c =
    let there = first_number_there c.self.inside.bytes.now c.self.inside.count c.args.place c.args.self.now c.self.view_is
    c.self.invariant c.requires in
    omega (arith, there.0)

pub read_word-requires : goal.read_word-requires
read_word-requires c =
    let there = first_number_there c.self.inside.bytes.now c.self.inside.count c.args.place c.args.self.now c.self.view_is
    c.self.invariant c.requires in
    omega (arith, there.0)

pub returns : goal.returns
returns c =
    let there = first_number_there c.self.inside.bytes.now c.self.inside.count c.args.place c.args.self.now c.self.view_is
    c.self.invariant c.requires in
    there.1 ∙ ap Some (sym c.read_word.ensures)
