use Rattle.std.proofs.Common.{◌+◌, ◌≤◌, ap, sym, ◌∙◌, refl, arith}
use Rattle.std.specs.Prelude.{Ok}
use Rattle.directory_tree.specs.Plain.{Plain, tree_of}
use Rattle.plain_tree.specs.contracts.plain.PlainTree.{the_view}
use Rattle.plain_tree.proofs.Held.{holds_step, accepted_step}
use Rattle.plain_tree.proofs.plain.PlainTree.keep.Goals as goal

pub invariant_of-self : goal.invariant_of-self
invariant_of-self c =
    let p : Plain = the_view c.self.inside in
    let i = c.self.inside in
    let h = c.self.invariant in
    let few : i.next ≤ i.version + 1 + 2 = omega (arith, h.few) in
    holds_step i.store i.count i.next i.version p c.args.self.now c.args.change.now (tree_of p) i.store i.count i.next (i.version + 1)
    c.and-self-inside.result.events c.self.view_is h (c.requires.new ∙ ap (λ (x : Plain). Ok (tree_of x)) (sym c.self.view_is))
    c.and-self-inside.ensures h.mirrors h.entries h.next refl few h.short

pub returns : goal.returns
returns c =
    let i = c.self.inside in
    accepted_step i.store i.count i.next i.version (the_view i) c.args.self.now c.args.change.now (tree_of c.args.self.now) (i.version + 1)
    c.and-self-inside.result.events c.self.view_is c.self.invariant c.requires.new c.and-self-inside.ensures refl
