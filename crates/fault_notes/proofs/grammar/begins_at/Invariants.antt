-- None of the items before begins at the place, and their bytes and those of the items that are left are the bytes of all.
use Rattle.std.proofs.Common.{◌≡◌, ◌+◌, drop, length}
use Rattle.apparmor_text.specs.Parts.{bytes_of_items}
use Rattle.fault_notes.specs.GrammarNotes.{begins_at}
use Rattle.fault_notes.proofs.grammar.begins_at.Given as goal

abbrev pub invariant-loop-item : goal.invariant-loop-item
invariant-loop-item l = record {
  found : begins_at l.place l.before (drop l.item-index l.items) ≡ begins_at l.place 0 l.items;
  counted : l.before + length (bytes_of_items (drop l.item-index l.items)) ≡ length (bytes_of_items l.items);
}
