-- What is reported of the parts before, and of those that are left, is what is reported of all.
use Rattle.std.proofs.Common.{◌≡◌, ◌++◌, drop}
use Rattle.import_spans.specs.PartSpans.{statement_whats}
use Rattle.import_spans.proofs.reports.statement_whats.Given as goal

abbrev pub invariant-loop-part : goal.invariant-loop-part
invariant-loop-part l = l.whats.items ++ statement_whats (drop l.part-index l.parts) ≡ statement_whats l.parts
