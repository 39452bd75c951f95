use Rattle.std.proofs.Common.{◌≡◌, ◌++◌, ap, codes, rules}
use Rattle.mediation.specs.Deeds.{removed}
use Rattle.trace_steps.proofs.PublicationEnds.{published_line}
use Rattle.trace_steps.proofs.publication.drop_line.Goals as goal

pub returns : goal.returns
returns g c =
    let old = g.M.EventMachine.machine c.args.machine.now in
    let new = g.M.EventMachine.machine c.publish.new.machine in
    let name = c.args.name.now in
    let copied = c.in_ok-from_slice.field-0.items in
    let start = c.in_ok-start.start.items in
    let begins : start ≡ codes "policy " ++ name ++ codes " removed version " = search rules in
    published_line old new (removed copied) (removed name) start (codes "policy " ++ name ++ codes " removed version ") c.publish.result
    (ap removed c.in_ok-from_slice.ensures.items) begins c.publish.ensures
