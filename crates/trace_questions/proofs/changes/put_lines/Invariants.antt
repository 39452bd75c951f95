-- The lines of the names so far are appended.
use Rattle.std.proofs.Common.{◌≡◌, ◌++◌}
use Rattle.rule_profile.specs.RuleSpans.{profile_spans}
use Rattle.rule_reader.specs.Spans.{spans_of}
use Rattle.trace_questions.specs.Differences.{difference_text}
use Rattle.trace_questions.specs.inner.Differences.{versions_value}
use Rattle.trace_questions.proofs.ListedLines.{first_lines}
use Rattle.trace_questions.proofs.changes.put_lines.Given as goal

abbrev pub invariant-loop-name : goal.invariant-loop-name
invariant-loop-name l =
    profile_spans l.versions.old.now ≡ spans_of l.versions.before.now →
    profile_spans l.versions.new.now ≡ spans_of l.versions.after.now →
    l.text.items ≡ l.initial.text.items
    ++ first_lines (difference_text l.format (versions_value l.versions) l.permission l.side) l.names l.name-index
