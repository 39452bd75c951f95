use Rattle.std.proofs.Common.{◌∙◌, ◌/◌, ◌%◌, ◌*◌, ◌^◌, bit_or, ap, arith}
use Rattle.std.proofs.Math.ListN.{set}
use Rattle.std.proofs.lemmas.List.{get_or_default}
use Rattle.table_image.proofs.TakenCells.{bit_in, one_taken}
use Rattle.table_image.proofs.taken.Taken.take.Goals as goal

pub returns-clause-taken : goal.returns-clause-taken
returns-clause-taken c d =
    let words = c.args.self.now.words.items in
    let cell = c.args.cell in
    ap (λ w. bit_in (set words (cell / 64) (bit_or w (1 * 2 ^ (cell % 64) % 2 ^ 64))) d)
    (c.index.ensures ∙ get_or_default words (cell / 64) c.index.result.now 0 (omega (arith, c.requires)))
    ∙ one_taken words cell c.requires d
