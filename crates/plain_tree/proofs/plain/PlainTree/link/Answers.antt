use Rattle.plain_tree.specs.laws.Acts.{directory_stands}
use Rattle.plain_tree.proofs.plain.PlainTree.link.Goals as goal

pub add-requires-clause-parent : goal.add-requires-clause-parent
add-requires-clause-parent c = directory_stands c.args.self.now c.args.place.now.directory c.number_of-of.result c.number_of-of.ensures
    c.requires.tested.directory
