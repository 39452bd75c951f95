use Rattle.std.proofs.Common.{◌≡◌, ◌+◌, ◌∙◌, Bool, true, false, ap, refl}
use Rattle.std.specs.Prelude.{if◌then◌else◌}
use mir.Val.{bool_byte}
use Rattle.directory_tree.specs.Plain.{tree_of}
use Rattle.plain_tree.specs.contracts.plain.PlainTree.{the_view}
use Rattle.plain_tree.proofs.Carried.{held, well_held, holds_shifted, loose, opened_node}
use Rattle.plain_tree.proofs.Held.{accepted_step}
use Rattle.plain_tree.proofs.plain.PlainTree.shift.Goals as goal

byte_is : (b : Bool) → bool_byte b ≡ (if b then 1 else 0)
byte_is true = refl
byte_is false = refl

pub shift-requires-clause-opened : goal.shift-requires-clause-opened
shift-requires-clause-opened c =
    let i = c.self.inside in
    let h = held i.store i.count i.next i.version (the_view i) c.args.self.now c.self.view_is c.self.invariant in
    opened_node i.store (tree_of c.args.self.now) h.mirrors (well_held i.store i.count i.next i.version (the_view i) c.args.self.now
    c.self.view_is c.self.invariant) c.args.of c.args.component.now

pub shift-requires-clause-empty : goal.shift-requires-clause-empty
shift-requires-clause-empty c =
    let i = c.self.inside in
    let h = held i.store i.count i.next i.version (the_view i) c.args.self.now c.self.view_is c.self.invariant in
    loose i.store (tree_of c.args.self.now) h.mirrors (well_held i.store i.count i.next i.version (the_view i) c.args.self.now
    c.self.view_is c.self.invariant) c.args.into c.args.name.now c.requires.empty

pub invariant_of-self-2 : goal.invariant_of-self-2
invariant_of-self-2 c =
    let i = c.self.inside in
    holds_shifted i.store i.count i.next i.version (the_view i) c.args.self.now c.args.change.now c.self.view_is c.self.invariant c.args.of
    c.args.component.now c.args.into c.args.name.now c.shift.new.self c.and-self-inside.result.events c.from.result
    c.requires.new c.requires.old c.requires.other c.requires.short c.in-Ok.ensures.ok.0 (c.from.ensures ∙ byte_is c.in-Ok.replaced
    ∙ ap (λ (b : Bool). if b then 1 else 0) c.in-Ok.ensures.ok.1) c.and-self-inside.ensures

pub returns-clause-ok : goal.returns-clause-ok
returns-clause-ok c =
    let i = c.self.inside in
    accepted_step i.store i.count i.next i.version (the_view i) c.args.self.now c.args.change.now _ (i.version + 1)
    c.and-self-inside.result.events c.self.view_is c.self.invariant c.requires.new c.and-self-inside.ensures refl
