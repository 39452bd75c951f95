use Rattle.directory_tree.specs.Plain.{tree_of}
use Rattle.directory_tree.proofs.Histories.{plain_well}
use Rattle.plain_tree.proofs.Entries.{next_nowhere}
use Rattle.plain_tree.specs.laws.Acts.{directory_stands}
use Rattle.plain_tree.proofs.plain.PlainTree.make.Goals as goal

pub add-requires-clause-parent : goal.add-requires-clause-parent
add-requires-clause-parent c = directory_stands c.args.self.now c.args.place.now.directory c.number_of-of.result c.number_of-of.ensures
    c.requires.tested.directory

pub add-requires-clause-fresh : goal.add-requires-clause-fresh
add-requires-clause-fresh c = λ directory. next_nowhere (tree_of c.args.self.now) c.next_number-number.result (plain_well c.args.self.now)
    c.next_number-number.ensures.next
