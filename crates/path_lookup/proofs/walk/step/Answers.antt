use Rattle.std.proofs.Common.{◌≡◌, ◌∙◌, sym, ap, rules, ◌∷◌, map, arith}
use Rattle.names.specs.Paths.{components}
use Rattle.directory_tree.specs.Components.{step_of, steps_of}
use Rattle.directory_tree.specs.Walk.{is_last, resolve}
use Rattle.directory_tree.specs.Spots.{node_at}
use Rattle.path_lookup.specs.inner.Steps.{onward_from}
use Rattle.path_lookup.proofs.WalkSteps.{fault_along, passed_on, ends_here, after_none, followed}
use Rattle.path_lookup.proofs.walk.step.Goals as goal

pub returns-in_err-arrival-clause-fault : goal.returns-in_err-arrival-clause-fault
returns-in_err-arrival-clause-fault g c =
    let first : components c.args.scratch.now ≡ c.in-Some.component.now ∷ components c.in-Some.rest.now = search rules in
    let ends : is_last (steps_of c.in-Some.rest.now) ≡ c.is_empty.result = ends_here c.in-Some.rest.now ∙ sym c.is_empty.ensures in
    let look = g.L.Look in
    passed_on c.from_residual.result c.in_err-arrival.field-0.0 _ c.from_residual.ensures.1
    (fault_along _ _ _ (λ w. onward_from w c.args.last c.args.links (look.means c.args.directory w) c.args.scratch.now)
    c.in_err-arrival.field-0.0 (λ w seen. ap (λ ps. resolve w.tree c.args.last c.args.links (node_at (look.means c.args.directory w))
    (map step_of ps)) first)
    (c.in_err-arrival.ensures.fault c.args.links (steps_of c.in-Some.rest.now) ends))

pub returns-in-Directory-clause-answer : goal.returns-in-Directory-clause-answer
returns-in-Directory-clause-answer g c = λ w seen.
    let first : components c.args.scratch.now ≡ c.in-Some.component.now ∷ components c.in-Some.rest.now = search rules in
    let ends : is_last (steps_of c.in-Some.rest.now) ≡ c.is_empty.result = ends_here c.in-Some.rest.now ∙ sym c.is_empty.ensures in
    let left : c.skip.new.self ≡ c.in-Some.rest.now = search rules in
    let look = g.L.Look in
    let arrival = rw c.in-Directory.is at c.in_ok-arrival.ensures.answer w seen c.args.links (steps_of c.in-Some.rest.now) ends in (
      ap (λ ps. resolve w.tree c.args.last c.args.links (node_at (look.means c.args.directory w)) (map step_of ps)) first
          ∙ arrival.0
          ∙ ap (λ z. resolve w.tree c.args.last c.args.links (node_at (look.means c.in-Directory.next w)) (steps_of z)) (sym left),
      arrival.1,
    )

pub returns-in-End-clause-answer : goal.returns-in-End-clause-answer
returns-in-End-clause-answer g c = λ w seen.
    let first : components c.args.scratch.now ≡ c.in-Some.component.now ∷ components c.in-Some.rest.now = search rules in
    let ends : is_last (steps_of c.in-Some.rest.now) ≡ c.is_empty.result = ends_here c.in-Some.rest.now ∙ sym c.is_empty.ensures in
    let look = g.L.Look in
    let arrival = rw c.in-End.is at c.in_ok-arrival.ensures.answer w seen c.args.links (steps_of c.in-Some.rest.now) ends in
    ap (λ ps. resolve w.tree c.args.last c.args.links (node_at (look.means c.args.directory w)) (map step_of ps)) first ∙ arrival.0

pub returns-in-Link-clause-fault : goal.returns-in-Link-clause-fault
returns-in-Link-clause-fault g c = λ w seen.
    let first : components c.args.scratch.now ≡ c.in-Some.component.now ∷ components c.in-Some.rest.now = search rules in
    let ends : is_last (steps_of c.in-Some.rest.now) ≡ c.is_empty.result = ends_here c.in-Some.rest.now ∙ sym c.is_empty.ensures in
    let look = g.L.Look in
    let arrival = rw c.in-Link.is at c.in_ok-arrival.ensures.answer w seen c.args.links (steps_of c.in-Some.rest.now) ends in
    ap (λ ps. resolve w.tree c.args.last c.args.links (node_at (look.means c.args.directory w)) (map step_of ps)) first
    ∙ arrival.2
    ∙ after_none w.tree c.args.last c.args.links _ _ c.if-links-eq0.true

pub returns-in_ok-next-in-Link-2-clause-answer : goal.returns-in_ok-next-in-Link-2-clause-answer
returns-in_ok-next-in-Link-2-clause-answer g c = λ w seen.
    let first : components c.args.scratch.now ≡ c.in-Some.component.now ∷ components c.in-Some.rest.now = search rules in
    let ends : is_last (steps_of c.in-Some.rest.now) ≡ c.is_empty.result = ends_here c.in-Some.rest.now ∙ sym c.is_empty.ensures in
    let left : c.skip.new.self ≡ c.in-Some.rest.now = search rules in
    let look = g.L.Look in
    let before = c.in_ok-next-in-Link-2.ensures.narrows w seen in
    let arrival = rw c.in-Link-2.is at c.in_ok-arrival.ensures.answer w before c.args.links (steps_of c.in-Some.rest.now) ends in
    let on =
    followed w.tree c.args.last c.args.links (look.means c.args.directory w) (look.means c.in_ok-next-in-Link-2.next w)
    (look.means c.in-Link-2.link w) c.in-Some.rest.now c.skip.new.self c.follow.new.scratch _
    (λ e. absurd (omega arith)) left c.in-Some.ensures.slash (c.requires.directory w (c.in_ok-arrival.ensures.narrows w before)) arrival
    (λ text kind. c.in_ok-next-in-Link-2.ensures.text w text seen kind) in (
      ap (λ ps. resolve w.tree c.args.last c.args.links (node_at (look.means c.args.directory w)) (map step_of ps)) first ∙ on.0,
      on.1,
    )
