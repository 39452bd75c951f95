-- The marks so far, and those of the bytes that are left after the line so far, are those of the text.
use Rattle.std.proofs.Common.{◌≡◌, ◌≤◌, ◌-◌, ◌++◌, drop, map, take}
use Rattle.import_origins.specs.Included.{marks_from, marks_of}
use Rattle.import_origins.specs.inner.Marks.{mark_value}
use Rattle.import_origins.proofs.included.IncludedFiles.of.Given as goal

abbrev pub invariant-loop-i : goal.invariant-loop-i
invariant-loop-i l = record {
  start : l.start ≤ l.i;
  marks : map mark_value l.marks.items ++ marks_from l.i (take (l.i - l.start) (drop l.start l.text)) (drop l.i l.text) ≡ marks_of l.text;
}
