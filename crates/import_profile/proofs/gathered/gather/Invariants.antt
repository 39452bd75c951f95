-- What was gathered from the items before, and what is still to be gathered.
use Rattle.std.proofs.Common.{◌≡◌, ◌++◌, drop}
use Rattle.import_spans.specs.CutStates.{at_start}
use Rattle.import_spans.specs.Cuts.{cut_items}
use Rattle.import_profile.specs.FileRules.{item_reading, rules_in}
use Rattle.import_profile.specs.Restated.{restated_rules}
use Rattle.import_profile.proofs.gathered.gather.Given as goal

abbrev pub invariant-loop-item : goal.invariant-loop-item
invariant-loop-item l = record {
  lists : l.lists ≡ l.fn.lists;
  cut : cut_items (item_reading l.fn.lists l.choice.subject) (drop l.item-index l.items) l.cut
      ≡ cut_items (item_reading l.fn.lists l.choice.subject) l.items (at_start l.choice);
  rules : l.rules.items ++ restated_rules l.choice.subject (rules_in l.fn.lists l.choice.subject (drop l.item-index l.items) l.cut)
      ≡ restated_rules l.choice.subject (rules_in l.fn.lists l.choice.subject l.items (at_start l.choice));
}
