use Rattle.std.proofs.Common.{◌≡◌, ◌∙◌, sym, ap, arith}
use Rattle.directory_tree.specs.Walk.{walk}
use Rattle.path_lookup.proofs.WalkSteps.{fault_along, passed_on, on_by_link}
use Rattle.path_lookup.proofs.walk.resolve_named.Goals as goal

pub resolve_from-requires-clause-directory : goal.resolve_from-requires-clause-directory
resolve_from-requires-clause-directory g c =
    let look = g.L.Look in
    let rest = c.in-Link.rest.now in
    let start = c.in_ok-next-in-Link.ensures in
    let slash = (rw c.in-Link.is at c.in_ok-course.ensures.left).1 in
    let on = on_by_link look.means (look.sees c.follow.new.look) c.args.last c.in-Link.directory c.in_ok-next-in-Link.next
    c.in-Link.link c.as_bytes.result.now rest c.begin.new.self c.follow.new.scratch c.begin.ensures slash
    (λ w seen. rw c.in-Link.is at c.in_ok-course.ensures.leads w (start.narrows w seen)) start.text in
    λ w seen. (on w seen).1

pub returns-in_err-entry-in-Link-clause-fault : goal.returns-in_err-entry-in-Link-clause-fault
returns-in_err-entry-in-Link-clause-fault g c =
    let look = g.L.Look in
    let rest = c.in-Link.rest.now in
    let start = c.in_ok-next-in-Link.ensures in
    let slash = (rw c.in-Link.is at c.in_ok-course.ensures.left).1 in
    let on = on_by_link look.means (look.sees c.follow.new.look) c.args.last c.in-Link.directory c.in_ok-next-in-Link.next
    c.in-Link.link c.as_bytes.result.now rest c.begin.new.self c.follow.new.scratch c.begin.ensures slash
    (λ w seen. rw c.in-Link.is at c.in_ok-course.ensures.leads w (start.narrows w seen)) start.text in
    passed_on c.from_residual-in_err-entry-in-Link.result c.in_err-entry-in-Link.field-0.0 _
    c.from_residual-in_err-entry-in-Link.ensures.1
    (fault_along _ _ _ (λ w. walk w.tree c.args.last c.args.path.now) c.in_err-entry-in-Link.field-0.0
    (λ w seen. ap (walk w.tree c.args.last) (sym c.as_bytes.ensures.bytes) ∙ (on w (c.in_err-entry-in-Link.ensures.narrows w seen)).0)
    c.in_err-entry-in-Link.ensures.fault)

pub returns-in_ok-entry-in-Link-clause-found : goal.returns-in_ok-entry-in-Link-clause-found
returns-in_ok-entry-in-Link-clause-found g c =
    let look = g.L.Look in
    let rest = c.in-Link.rest.now in
    let start = c.in_ok-next-in-Link.ensures in
    let slash = (rw c.in-Link.is at c.in_ok-course.ensures.left).1 in
    let on = on_by_link look.means (look.sees c.follow.new.look) c.args.last c.in-Link.directory c.in_ok-next-in-Link.next
    c.in-Link.link c.as_bytes.result.now rest c.begin.new.self c.follow.new.scratch c.begin.ensures slash
    (λ w seen. rw c.in-Link.is at c.in_ok-course.ensures.leads w (start.narrows w seen)) start.text in
    λ w seen. ap (walk w.tree c.args.last) (sym c.as_bytes.ensures.bytes)
    ∙ (on w (c.in_ok-entry-in-Link.ensures.narrows w seen)).0 ∙ c.in_ok-entry-in-Link.ensures.found w seen
