use Rattle.std.proofs.Common.{◌+◌, ◌<◌, length, arith, refl, sym, subst}
use Rattle.directory_tree.specs.Apply.{entry}
use Rattle.directory_tree.specs.Plain.{Plain, tree_of}
use Rattle.plain_tree.specs.contracts.plain.PlainTree.{the_view}
use Rattle.plain_tree.proofs.Carried.{holds_entered, on_ok}
use Rattle.plain_tree.proofs.Held.{accepted_step}
use Rattle.plain_tree.proofs.plain.PlainTree.add.Goals as goal

pub overflow_add-self : goal.overflow_add-self
overflow_add-self c =
    let room : length (tree_of (the_view c.self.inside)).entries < c.self.inside.capacity =
    subst (λ (p : Plain). length (tree_of p).entries < p.capacity) (sym c.self.view_is) c.requires.room in
    record { fits = omega (arith, room, c.self.invariant.entries, c.self.invariant.capacity_fits) }

pub invariant_of-self-2 : goal.invariant_of-self-2
invariant_of-self-2 c =
    let i = c.self.inside in
    let x = entry c.args.of c.args.component.now c.args.node.number c.args.node.kind in
    holds_entered i.store i.count i.next i.version (the_view i) c.args.self.now c.args.change.now c.self.view_is c.self.invariant x
    c.args.next c.enter.new.self c.and-self-inside.result.events c.requires.new c.requires.free c.requires.short c.requires.few
    (on_ok c.enter.result c.if-is_err.ensures.value c.enter.ensures.ok) c.and-self-inside.ensures

pub returns-clause-ok : goal.returns-clause-ok
returns-clause-ok c =
    let i = c.self.inside in
    accepted_step i.store i.count i.next i.version (the_view i) c.args.self.now c.args.change.now _ (i.version + 1)
    c.and-self-inside.result.events c.self.view_is c.self.invariant c.requires.new c.and-self-inside.ensures refl
