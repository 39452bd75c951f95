-- The depth is where the depths have it; without depths it is 0.
use Rattle.std.proofs.Common.{◌≡◌, ◌+◌, ◌*◌, ◌<◌, length, Some, slice_get, sym, ap, ◌∙◌, subst, arith}
use Rattle.tables.specs.Images.{word_at}
use Rattle.tables.specs.Tables.{Table}
use Rattle.tables.proofs.Places.{depth_there, no_depth}
use Rattle.tables.proofs.image.Image.depth.Goals as goal

pub read_word-requires : goal.read_word-requires
read_word-requires c =
    let lt = subst (λ (t : Table). c.args.state < length t.depth) (sym c.self.view_is) c.requires in
    let there = depth_there c.self.inside.bytes.now c.self.inside.counts c.args.state c.self.invariant c.in-Second.is lt in
    omega (arith, there.0, c.depths_start.ensures)

pub returns-in-First : goal.returns-in-First
returns-in-First c =
    let lt = subst (λ (t : Table). c.args.state < length t.depth) (sym c.self.view_is) c.requires in
    subst (λ (t : Table). slice_get t.depth c.args.state ≡ Some 0) c.self.view_is
    (no_depth c.self.inside.counts.version c.self.inside.bytes.now c.args.state c.in-First.is lt)

pub returns-in-Second : goal.returns-in-Second
returns-in-Second c =
    let lt = subst (λ (t : Table). c.args.state < length t.depth) (sym c.self.view_is) c.requires in
    let there = depth_there c.self.inside.bytes.now c.self.inside.counts c.args.state c.self.invariant c.in-Second.is lt in
    subst (λ (t : Table). slice_get t.depth c.args.state ≡ Some c.read_word.result) c.self.view_is
    (there.1 ∙ ap (λ x. Some (word_at c.self.inside.bytes.now (x + 4 * c.args.state))) (sym c.depths_start.ensures)
    ∙ ap Some (sym c.read_word.ensures))
