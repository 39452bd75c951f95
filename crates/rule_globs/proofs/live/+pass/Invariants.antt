-- The whole pass is what is left of it from here.
use Rattle.std.proofs.Common.{◌≡◌, ◌+◌, ◌*◌, drop}
use Rattle.rule_globs.proofs.Weight.{weight}
use Rattle.rule_globs.specs.inner.Sweep.{sweep, join}
use Rattle.rule_globs.specs.Meaning.{meaning, meaning_of, alternatives_meaning}
use Rattle.rule_globs.specs.inner.Cursor.{pass_at}
use Rattle.rule_globs.proofs.live.+pass.Given as goal

-- what is left of the pass, from here
abbrev pub invariant-pass_items-loop-item : goal.invariant-pass_items-loop-item
invariant-pass_items-loop-item l =
    sweep (meaning_of l.items) l.block (pass_at l.initial.cursor l.initial.live)
    ≡ sweep (meaning_of (drop l.item-index l.items)) l.block (pass_at l.cursor l.live)

abbrev pub invariant-pass_alternatives-loop-items : goal.invariant-pass_alternatives-loop-items
invariant-pass_alternatives-loop-items l =
    sweep (alternatives_meaning l.alternatives) l.block (pass_at l.cursor l.initial.live)
    ≡ join l.reached (sweep (alternatives_meaning (drop l.items-index l.alternatives)) l.block
    (record { place = l.place; reached = l.cursor.reached; live = l.live }))

abbrev pub decreases-pass_item : goal.decreases-pass_item
decreases-pass_item l = 2 * weight (meaning l.item.now) + 1

abbrev pub decreases-pass_items : goal.decreases-pass_items
decreases-pass_items l = 2 * weight (meaning_of l.items.now)

abbrev pub decreases-pass_alternatives : goal.decreases-pass_alternatives
decreases-pass_alternatives l = 2 * weight (alternatives_meaning l.alternatives.now)
