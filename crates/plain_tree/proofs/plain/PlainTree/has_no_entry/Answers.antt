use Rattle.directory_tree.specs.Plain.{tree_of}
use Rattle.plain_tree.specs.contracts.plain.PlainTree.{the_view}
use Rattle.plain_tree.proofs.Carried.{held, empty_told}
use Rattle.plain_tree.proofs.plain.PlainTree.has_no_entry.Goals as goal

pub returns : goal.returns
returns c =
    let i = c.self.inside in
    let h = held i.store i.count i.next i.version (the_view i) c.args.self.now c.self.view_is c.self.invariant in
    empty_told i.store (tree_of c.args.self.now) c.args.number c.is_empty.result h.mirrors c.is_empty.ensures
