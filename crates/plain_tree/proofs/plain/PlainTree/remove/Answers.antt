use Rattle.std.proofs.Common.{◌+◌, refl}
use Rattle.directory_tree.specs.Plain.{tree_of}
use Rattle.plain_tree.specs.contracts.plain.PlainTree.{the_view}
use Rattle.plain_tree.proofs.Carried.{held, well_held, holds_left, loose}
use Rattle.plain_tree.proofs.Held.{accepted_step}
use Rattle.plain_tree.proofs.plain.PlainTree.remove.Goals as goal

pub leave-requires : goal.leave-requires
leave-requires c =
    let i = c.self.inside in
    let h = held i.store i.count i.next i.version (the_view i) c.args.self.now c.self.view_is c.self.invariant in
    loose i.store (tree_of c.args.self.now) h.mirrors (well_held i.store i.count i.next i.version (the_view i) c.args.self.now
    c.self.view_is c.self.invariant) c.args.of c.args.component.now c.requires.empty

pub invariant_of-self : goal.invariant_of-self
invariant_of-self c =
    let i = c.self.inside in
    holds_left i.store i.count i.next i.version (the_view i) c.args.self.now c.args.change.now c.self.view_is c.self.invariant c.args.of
    c.args.component.now c.leave.new.self c.and-self-inside.result.events c.requires.new c.requires.there c.leave.ensures
    c.and-self-inside.ensures

pub returns : goal.returns
returns c =
    let i = c.self.inside in
    accepted_step i.store i.count i.next i.version (the_view i) c.args.self.now c.args.change.now _ (i.version + 1)
    c.and-self-inside.result.events c.self.view_is c.self.invariant c.requires.new c.and-self-inside.ensures refl
