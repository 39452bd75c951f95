use Rattle.std.proofs.Common.{ℕ, nat_eq, sym, subst, arith}
use Rattle.tree_row.specs.Questions.{Tells}
use Rattle.tree_row.specs.inner.Words.{IsStart}
use Rattle.tree_row.proofs.PackedWords.{starts, overlapping}
use Rattle.tree_row.proofs.text.is_start.Goals as goal

pub returns-then-count-ge8 : goal.returns-then-count-ge8
returns-then-count-ge8 c =
    subst (λ (z : ℕ). Tells (nat_eq c.args.word z) (IsStart c.args.word c.args.text.now)) (sym c.packed_word.ensures)
    (starts c.args.word c.args.text.now c.ranges.word.fits (λ i. omega (arith, c.type_inv.text i)) (omega arith))

pub returns-then-has_four_at : goal.returns-then-has_four_at
returns-then-has_four_at c = overlapping c.args.word c.args.text.now c.has_four_at-then-has_four_at.result (omega arith) (omega arith)
    c.if-has_four_at.ensures c.has_four_at-then-has_four_at.ensures
