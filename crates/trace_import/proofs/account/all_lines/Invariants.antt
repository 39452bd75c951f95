-- The lines so far, and those of the spans that are left, are the account.
use Rattle.std.proofs.Common.{◌≡◌, ◌++◌, drop}
use Rattle.trace_import.specs.Accounts.{all_lines}
use Rattle.trace_import.proofs.account.all_lines.Given as goal

abbrev pub invariant-loop-span : goal.invariant-loop-span
invariant-loop-span l = record {
  places : l.places ≡ l.text;
  lines : l.lines.items ++ all_lines l.text (drop l.span-index l.spans) ≡ all_lines l.text l.spans;
}
