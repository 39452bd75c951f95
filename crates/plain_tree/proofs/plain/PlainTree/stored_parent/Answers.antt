use Rattle.std.proofs.Common.{◌∙◌, ap}
use Rattle.directory_tree.specs.Plain.{tree_of}
use Rattle.plain_tree.specs.inner.Store.{known_parent}
use Rattle.plain_tree.specs.contracts.plain.PlainTree.{the_view}
use Rattle.plain_tree.proofs.Carried.{held, well_held}
use Rattle.plain_tree.proofs.Held.{known_stands}
use Rattle.plain_tree.proofs.Entries.{parent_short}
use Rattle.plain_tree.proofs.plain.PlainTree.stored_parent.Goals as goal

pub returns : goal.returns
returns c =
    let i = c.self.inside in
    let h = held i.store i.count i.next i.version (the_view i) c.args.self.now c.self.view_is c.self.invariant in
    let well = well_held i.store i.count i.next i.version (the_view i) c.args.self.now c.self.view_is c.self.invariant in
    let is = c.parent.ensures ∙ ap known_parent (h.mirrors.parents c.args.number) ∙ known_stands (tree_of c.args.self.now)
    c.args.number well in
    record { parent = is; fits = parent_short (tree_of c.args.self.now) c.args.number c.parent.result well h.short is }
