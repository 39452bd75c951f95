-- What the items that are left make of the outline is what all make of the start.
use Rattle.std.proofs.Common.{◌≡◌, ◌++◌, drop}
use Rattle.import_scope.specs.Overrides.{items_given}
use Rattle.import_scope.specs.Scopes.{at_start}
use Rattle.import_scope.specs.inner.Outlines.{state_of, asked_of, last_state, head_stop, all_asked}
use Rattle.import_scope.proofs.outline.outline_of.Given as goal

abbrev pub invariant-loop-item : goal.invariant-loop-item
invariant-loop-item l = record {
  state : last_state (state_of l.outline) (items_given l.overrides l.defines (drop l.item-index l.items))
      ≡ last_state (at_start l.defines) (items_given l.overrides l.defines l.items);
  asked : asked_of l.outline ++ all_asked (state_of l.outline) (items_given l.overrides l.defines (drop l.item-index l.items))
      ≡ all_asked (at_start l.defines) (items_given l.overrides l.defines l.items);
  stop : head_stop (state_of l.outline) (items_given l.overrides l.defines (drop l.item-index l.items))
      ≡ head_stop (at_start l.defines) (items_given l.overrides l.defines l.items);
}
