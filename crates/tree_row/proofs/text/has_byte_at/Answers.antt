use Rattle.std.proofs.Common.{◌≡◌, ℕ, ◌/◌, ◌*◌, ◌%◌, ◌^◌, nat_eq, sym, subst, slice_index}
use Rattle.std.specs.Int.{byte_at}
use Rattle.tree_row.specs.Questions.{Tells}
use Rattle.tree_row.proofs.PackedWords.{one_byte}
use Rattle.tree_row.proofs.text.has_byte_at.Goals as goal

pub returns : goal.returns
returns c = subst (λ (z : ℕ). Tells (nat_eq (c.args.word / 2 ^ (8 * c.args.i) % 256) z)
    (byte_at c.args.i c.args.word ≡ slice_index c.args.text.now c.args.i)) (sym c.from.ensures)
    (one_byte c.args.word c.args.i (slice_index c.args.text.now c.args.i) c.requires.low)
