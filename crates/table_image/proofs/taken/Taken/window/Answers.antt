use Rattle.std.proofs.Common.{◌∙◌, ◌/◌, ◌%◌, ◌<◌, ap, arith}
use Rattle.table_image.proofs.TakenCells.{bit_in, window_of_two}
use Rattle.table_image.proofs.taken.Taken.window.Goals as goal

pub returns : goal.returns
returns c i lt =
    let words = c.args.self.now.words.items in
    let at = c.args.at in
    let some : 0 < at % 64 = let other = c.if-over-eq0.false in omega (arith, other) in
    window_of_two words c.word-low.result c.word.result (at / 64) (at % 64) i c.word-low.type_inv some (omega arith) lt
    c.word-low.ensures c.word.ensures
    ∙ ap (bit_in words) (omega arith)
