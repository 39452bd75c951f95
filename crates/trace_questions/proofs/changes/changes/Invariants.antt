-- The lines so far are those of the permissions that the loop has passed.
use Rattle.std.proofs.Common.{List, Option}
use Rattle.rule_globs.specs.Tokens.{Token}
use Rattle.trace_questions.specs.inner.Differences.{AreCompared, versions_value}
use Rattle.trace_questions.proofs.DifferenceLaws.{AreFirst}
use Rattle.trace_questions.proofs.changes.changes.Given as goal

abbrev pub invariant-loop-permission : goal.invariant-loop-permission
invariant-loop-permission l =
    (below : Option (List Token)) → AreCompared l.comparison l.versions l.listing.restricted below →
    AreFirst l.listing.report below (versions_value l.versions) l.permission-index l.text.items
