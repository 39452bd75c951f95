use Rattle.std.proofs.Common.{◌≡◌, subst, sym}
use Rattle.directory_tree.specs.declared.node.Kind.TheVariants as kind
use Rattle.directory_tree.specs.Plain.{Plain, tree_of}
use Rattle.directory_tree.specs.Spots.{shape_of, kind_at}
use Rattle.change_checks.specs.Act.{MayMove}
use Rattle.plain_tree.specs.PlainEntry.{means_in}
use Rattle.plain_tree.specs.laws.Acts.{directory_stands}
use Rattle.plain_tree.proofs.plain.PlainTree.apply.Goals as goal

pub shift-requires-clause-parent : goal.shift-requires-clause-parent
shift-requires-clause-parent c =
    let moved = c.in-Move.moved in
    let told : MayMove (means_in (tree_of c.args.self.now)) (tree_of c.args.self.now) moved =
    rw c.in-Move.is at c.in_ok-place.ensures.tested in
    directory_stands c.tested.new.self moved.to.directory c.number_of-into.result c.number_of-into.ensures
    (subst (λ (x : Plain). shape_of (kind_at (means_in (tree_of x) moved.to.directory)) ≡ kind.Directory) (sym c.in_ok-place.ensures.same)
    told.directory)
