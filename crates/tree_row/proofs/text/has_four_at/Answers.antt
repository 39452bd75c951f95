use Rattle.std.proofs.Common.{◌≡◌, ℕ, ◌+◌, ◌/◌, ◌*◌, ◌%◌, ◌^◌, nat_eq, sym, ◌∙◌, subst, arith, slice_index, ◌∷◌, []}
use Rattle.std.specs.Int.{from_le_bytes, w32}
use Rattle.tree_row.specs.Questions.{Tells}
use Rattle.tree_row.specs.inner.Words.{HasFourAt}
use Rattle.tree_row.proofs.PackedWords.{four_bytes}
use Rattle.tree_row.proofs.text.has_four_at.Goals as goal

pub returns : goal.returns
returns c =
    let first : c.args.i + 0 ≡ c.args.i = omega arith in
    let f = slice_index c.args.text.now in
    let is : c.from.result ≡ from_le_bytes w32 (f c.args.i ∷ f (c.args.i + 1) ∷ f (c.args.i + 2) ∷ f (c.args.i + 3) ∷ []) =
    c.from.ensures ∙ c.from_le_bytes.ensures in
    subst (λ (z : ℕ). Tells (nat_eq (c.args.word / 2 ^ (8 * c.args.i) % 4294967296) z) (HasFourAt c.args.word c.args.text.now c.args.i))
    ((λ k. from_le_bytes w32 (f (first k) ∷ f (c.args.i + 1) ∷ f (c.args.i + 2) ∷ f (c.args.i + 3) ∷ [])) ∙ sym is)
    (four_bytes c.args.word c.args.i c.args.text.now c.requires.low (λ k. omega (arith, c.type_inv.text k)))
