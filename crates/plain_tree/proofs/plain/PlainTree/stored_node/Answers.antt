use Rattle.std.proofs.Common.{◌∙◌}
use Rattle.directory_tree.specs.Plain.{tree_of}
use Rattle.plain_tree.specs.contracts.plain.PlainTree.{the_view}
use Rattle.plain_tree.proofs.Carried.{held}
use Rattle.plain_tree.proofs.Entries.{node_fits, node_text}
use Rattle.plain_tree.proofs.plain.PlainTree.stored_node.Goals as goal

pub returns-clause-fits : goal.returns-clause-fits
returns-clause-fits c = λ some.
    let i = c.self.inside in
    let h = held i.store i.count i.next i.version (the_view i) c.args.self.now c.self.view_is c.self.invariant in
    node_fits (tree_of c.args.self.now) c.args.of c.args.component.now c.node.result h.short
    (c.node.ensures ∙ h.mirrors.nodes c.args.of c.args.component.now) some

pub returns-clause-text_fits : goal.returns-clause-text_fits
returns-clause-text_fits c =
    let i = c.self.inside in
    let h = held i.store i.count i.next i.version (the_view i) c.args.self.now c.self.view_is c.self.invariant in
    node_text (tree_of c.args.self.now) c.args.of c.args.component.now c.node.result h.short
    (c.node.ensures ∙ h.mirrors.nodes c.args.of c.args.component.now)
