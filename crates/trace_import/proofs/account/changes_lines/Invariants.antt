-- The lines so far, and those of the spans that are left, are the account.
use Rattle.std.proofs.Common.{◌≡◌, ◌++◌, drop}
use Rattle.trace_import.specs.Accounts.{change_line}
use Rattle.std.specs.List.{flat_map}
use Rattle.trace_import.proofs.account.changes_lines.Given as goal

abbrev pub invariant-loop-span : goal.invariant-loop-span
invariant-loop-span l = record {
  places : l.places ≡ l.text;
  lines : l.lines.items ++ flat_map (change_line l.text) (drop l.span-index l.spans) ≡ flat_map (change_line l.text) l.spans;
}
