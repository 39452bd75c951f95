use Rattle.std.proofs.Common.{inl, inr}
use Rattle.justification.proofs.Growth.{none_after}
use Rattle.justification.proofs.reach.tree_after.Goals as goal

pub returns-in_default : goal.returns-in_default
returns-in_default c =
    let so_far = c.loop-change.invariant in
    elim c.in-Err.ensures.err.1 [
      | inl lacks ↦ absurd (c.in_default.not-ENOMEM lacks.0)
      | inr refused ↦ none_after c.loop-change.tree c.args.capacity c.args.changes.now c.loop-change.change-index c.change-item.result _
          so_far.capacity so_far.history so_far.made
          c.loop-change-test.true c.change-item.is refused
    ]
