-- None of the items before assigns to the variable, and their bytes and those of the items that are left are the bytes of all.
use Rattle.std.proofs.Common.{◌≡◌, ◌+◌, drop, length}
use Rattle.apparmor_text.specs.Parts.{bytes_of_items}
use Rattle.fault_notes.specs.VariableNotes.{first_assigned}
use Rattle.fault_notes.proofs.variable.first_assigned.Given as goal

abbrev pub invariant-loop-item : goal.invariant-loop-item
invariant-loop-item l = record {
  found : first_assigned l.before (drop l.item-index l.items) l.word ≡ first_assigned 0 l.items l.word;
  counted : l.before + length (bytes_of_items (drop l.item-index l.items)) ≡ length (bytes_of_items l.items);
}
