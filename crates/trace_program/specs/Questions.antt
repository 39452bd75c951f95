-- How questions about all names end, by the words of a command line.
use Rattle.std.specs.Prelude.{ℕ, Bool, true, false, List, Option, Some, None}
use Rattle.question_answers.specs.declared.quantifier.Witnesses.{Witnesses}
use Rattle.question_answers.specs.declared.quantifier.Witnesses.TheVariants.{EachRule, Least}
use Rattle.trace_questions.specs.Differences.{IsDiffOutput}
use Rattle.trace_questions.specs.declared.report.Report.{Report}
use Rattle.trace_report.specs.Streams.{EndsAnswered, IsTextOf, Streams}
use Rattle.trace_report.specs.declared.status.Status.{Status}

-- whether a name is requested for each rule
abbrev pub witnesses_of : Bool → Witnesses
witnesses_of true = EachRule
witnesses_of false = Least

-- the bytes of the text with this name, where they are known; without a name it is the text on standard input
abbrev pub text_named : (List ℕ → Option (List ℕ)) → List ℕ → Option (List ℕ) → Option (List ℕ)
text_named known text None = Some text
text_named known text (Some name) = known name

-- as the comparison of two texts ends, which are those with these bytes, where they are known
abbrev pub DiffEnds : Report → Option (List ℕ) → Option (List ℕ) → Option (List ℕ) → Streams → Status → Type 0
DiffEnds report below old new streams status = (before after : List ℕ) × IsTextOf old before × IsTextOf new after
    × EndsAnswered streams (IsDiffOutput report below before after) status
