-- Answers as lines: of text, or of JSON.
use Rattle.std.specs.Prelude.{ℕ, List}
use Rattle.names.specs.declared.permissions.Perms.{Perms}
use Rattle.names.specs.declared.verdict.Verdict.{Verdict}
use Rattle.names.specs.VerdictText.{verdict_text}
use Rattle.rule_explain.specs.Explanations as texts
use Rattle.rule_profile.specs.declared.profile.Span.{Span}
use Rattle.rule_profile.specs.Profile.{RuleValue}
use Rattle.serde_json.specs.Data.{Data}
use Rattle.serde_json.specs.Written.{compact_text}
use Rattle.trace_report.specs.declared.format.Format.{Format}
use Rattle.trace_report.specs.declared.format.Format.TheVariants.{Text, Json}
use Rattle.trace_report.specs.Output.{line}
use Rattle.answer_json.specs.Values.{explanation_object, verdict_object}

-- a value with no spaces in it, and a line feed
abbrev pub json_line : Data → List ℕ
json_line value = line (compact_text value)

abbrev pub verdict_line : Format → Verdict → List ℕ
verdict_line Text verdict = line (verdict_text verdict)
verdict_line Json verdict = json_line (verdict_object verdict)

-- the verdict and the reasons for it: lines, or one line
abbrev pub explanation : Format → List ℕ → List RuleValue → List Span → List ℕ → Perms → List ℕ
explanation Text text rules spans name ask = texts.explanation text rules spans name ask
explanation Json text rules spans name ask = json_line (explanation_object text rules spans name ask)
