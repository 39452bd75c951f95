use Rattle.std.proofs.Common.{arith, inl, inr}
use Rattle.justification.proofs.OpenEnds.{none_later, goes_on}
use Rattle.justification.proofs.outcomes.ends_after.Goals as goal

pub returns-in_default : goal.returns-in_default
returns-in_default c =
    let so_far = c.loop-change.invariant in
    elim c.in-Err.ensures.err.1 [
      | inl lacks ↦ absurd (c.in_default.not-ENOMEM lacks.0)
      | inr refused ↦ record {
        each = so_far.each;
        no_more = λ version t low.
            none_later c.loop-change.tree c.args.changes.now c.loop-change.change-index c.change-item.result _ so_far.capacity
            so_far.history so_far.made c.loop-change-test.true c.change-item.is refused version t (omega arith);
      }
    ]

pub loop-change-preserved : goal.loop-change-preserved
loop-change-preserved c =
    goes_on c.args.changes.now c.args.path.now c.args.ask c.loop-change.tree c.apply.new.self c.end_in-in-Ok.new.tree
    c.loop-change.change-index c.change-item.result _ c.loop-change.ends.items c.push-in-Ok.new.ends.items c.in_ok-end_in-in-Ok.field-0
    c.loop-change.invariant c.loop-change-test.true c.change-item.is c.in-Ok.ensures.ok
    c.end_in-in-Ok.ensures.kept c.in_ok-end_in-in-Ok.ensures.end c.in_ok-push-in-Ok.ensures
