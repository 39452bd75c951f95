use Rattle.std.proofs.Common.{◌≡◌, ◌∙◌, ◌++◌, map, length, sym, ap, arith, rules}
use Rattle.std.proofs.lemmas.List.{length-append}
use Rattle.directory_tree.specs.Components.{step_of, steps_of}
use Rattle.directory_tree.specs.Walk.{walk, is_last, max_links, resolve}
use Rattle.directory_tree.specs.Spots.{node_at}
use Rattle.path_lookup.proofs.NameParts.{stem, name_split, closing_other}
use Rattle.path_lookup.proofs.OwnNames.{stem_down, no_rest}
use Rattle.path_lookup.proofs.WalkSteps.{fault_along, passed_on, ends_here}
use Rattle.path_lookup.proofs.direct.walk_directly.Goals as goal

pub returns-in_err-arrival-clause-fault : goal.returns-in_err-arrival-clause-fault
returns-in_err-arrival-clause-fault g c =
    let look = g.L.Look in
    let here = c.loop-component.invariant in
    let ends : is_last (steps_of c.in-Some.rest.now) ≡ c.is_empty.result = ends_here c.in-Some.rest.now ∙ sym c.is_empty.ensures in
    passed_on c.from_residual.result c.in_err-arrival.field-0.0 _ c.from_residual.ensures.1
    (fault_along _ _ _ (λ w. walk w.tree c.args.last c.args.text.now) c.in_err-arrival.field-0.0
    (λ w seen. here.here w (c.arrive_down.ensures.narrows w seen)
    ∙ ap (λ ps. resolve w.tree c.args.last max_links (node_at (look.means c.loop-component.directory w)) (map step_of ps))
    c.in-Some.ensures.first)
    (c.in_err-arrival.ensures.fault max_links (steps_of c.in-Some.rest.now) ends))

pub loop-component-preserved : goal.loop-component-preserved
loop-component-preserved g c =
    let look = g.L.Look in
    let here = c.loop-component.invariant in
    let got = c.in_ok-arrival.ensures in
    let rest = c.in-Some.rest.now in
    let directory = c.loop-component.directory in
    let next = c.in-Directory.next in
    let ends : is_last (steps_of rest) ≡ c.is_empty.result = ends_here rest ∙ sym c.is_empty.ensures in
    let known = rw c.in-Directory.is at got.known in
    record {
      kept = search rules;
      narrows = search rules;
      keeps = search rules;
      known = known;
      short = let before = here.short in let shorter = ap length c.in-Some.ensures.whole in
          let joined = length-append c.in-Some.component.now rest in omega arith;
      directory = λ w seen. (rw c.in-Directory.is at got.answer w seen max_links (steps_of rest) ends).1;
      here = λ w seen. here.here w (got.narrows w seen)
          ∙ ap (λ ps. resolve w.tree c.args.last max_links (node_at (look.means directory w)) (map step_of ps)) c.in-Some.ensures.first
          ∙ (rw c.in-Directory.is at got.answer w seen max_links (steps_of rest) ends).0;
      name = λ w seen.
          let before = got.narrows w seen in
          let child = rw c.in-Directory.is at got.child w seen in
          stem_down w.tree w.sound (look.means directory w) (look.means next w) (look.stands _ w next seen known)
          (here.directory w before) c.in-Some.component.now child rest
          ∙ ap (λ z. stem w.tree (look.means directory w) ++ z) (sym c.in-Some.ensures.whole) ∙ here.name w before;
    }

pub returns-in-End-clause-leads : goal.returns-in-End-clause-leads
returns-in-End-clause-leads g c = λ w seen.
    let look = g.L.Look in
    let here = c.loop-component.invariant in
    let got = c.in_ok-arrival.ensures in
    let rest = c.in-Some.rest.now in
    let directory = c.loop-component.directory in
    let entry = c.in-End.entry in
    let ends : is_last (steps_of rest) ≡ c.is_empty.result = ends_here rest ∙ sym c.is_empty.ensures in
    let known = rw c.in-End.is at got.known in
    let before = got.narrows w seen in
    let child = rw c.in-End.is at got.child w seen in
    let arrival = rw c.in-End.is at got.answer w seen max_links (steps_of rest) ends in (
      here.here w before
          ∙ ap (λ ps. resolve w.tree c.args.last max_links (node_at (look.means directory w)) (map step_of ps)) c.in-Some.ensures.first
          ∙ arrival.0,
      name_split w.tree (look.means entry w)
          ∙ ap (λ z. stem w.tree (look.means entry w) ++ z) (closing_other (look.means entry w) arrival.1
          ∙ sym (no_rest rest (sym (ends_here rest) ∙ arrival.2)))
          ∙ stem_down w.tree w.sound (look.means directory w) (look.means entry w) (look.stands _ w entry seen known)
          (here.directory w before) c.in-Some.component.now child rest
          ∙ ap (λ z. stem w.tree (look.means directory w) ++ z) (sym c.in-Some.ensures.whole) ∙ here.name w before,
    )

pub returns-in-Link-clause-leads : goal.returns-in-Link-clause-leads
returns-in-Link-clause-leads g c = λ w seen.
    let look = g.L.Look in
    let here = c.loop-component.invariant in
    let got = c.in_ok-arrival.ensures in
    let rest = c.in-Some.rest.now in
    let directory = c.loop-component.directory in
    let ends : is_last (steps_of rest) ≡ c.is_empty.result = ends_here rest ∙ sym c.is_empty.ensures in
    let before = got.narrows w seen in
    let arrival = rw c.in-Link.is at got.answer w seen max_links (steps_of rest) ends in (
      (
        arrival.0,
        arrival.1,
        here.here w before
            ∙ ap (λ ps. resolve w.tree c.args.last max_links (node_at (look.means directory w)) (map step_of ps)) c.in-Some.ensures.first
            ∙ arrival.2,
      ),
      here.directory w before,
    )
