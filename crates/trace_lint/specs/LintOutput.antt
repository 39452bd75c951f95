-- What `lint` writes in either format, memory and failures of the streams aside.
use Rattle.std.specs.Prelude.{◌≡◌, ◌⊎◌, ℕ, true, false, List, [], ◌∷◌, Result, Ok, Err, flat_map}
use Rattle.answer_json.specs.Lines.{json_line}
use Rattle.glob_automaton.specs.Automata.{most_sets}
use Rattle.glob_automaton.specs.Sets.{AreMoreThan}
use Rattle.matcher.specs.declared.fault.MakeFault.TheVariants.{TooManyStates}
use Rattle.names.specs.declared.permissions.Perms.{Perms}
use Rattle.profile_questions.specs.Faults.{IsQuestionFault}
use Rattle.profile_questions.specs.declared.fault.QuestionFault.TheVariants as question
use Rattle.rule_globs.specs.Rules.{RuleValue, ProfileValue}
use Rattle.rule_influence.specs.Influence.{AreDecided}
use Rattle.rule_reader.specs.ReadText.{outcome_of}
use Rattle.rule_reader.specs.Spans.{spans_of}
use Rattle.rule_reader.specs.declared.fault.ReadFault.{ReadFault}
use Rattle.rule_profile.specs.declared.profile.Span.{Span}
use Rattle.trace_lint.specs.Findings.{AreFindings, FindingValue}
use Rattle.trace_lint.specs.Lines.{finding_line}
use Rattle.trace_lint.specs.Values.{finding_object}
use Rattle.trace_report.specs.Output.{Output, compile_refusal, fault, finding, question_refusal, refusal}
use Rattle.trace_report.specs.declared.format.Format.{Format}
use Rattle.trace_report.specs.declared.format.Format.TheVariants.{Text, Json}
use Rattle.trace_report.specs.declared.status.Status.TheVariants.{Refused}

-- what is written where the rules have too many states, or names have too many sets of live places
abbrev pub IsRefused : List RuleValue → Output → Type 0
IsRefused rules output = (AreMoreThan most_sets rules × (output ≡ fault (compile_refusal TooManyStates) Refused))
    ⊎ (IsQuestionFault rules [] [] question.TooManyStates × (output ≡ fault question_refusal Refused))

-- they have neither
abbrev pub IsAnswerable : List RuleValue → Type 0
IsAnswerable rules = ¬ (AreMoreThan most_sets rules) × ¬ (IsQuestionFault rules [] [] question.TooManyStates)

-- lines, in which something is found, or nothing
abbrev pub answer_of : List ℕ → Output
answer_of [] = finding [] false
answer_of (b ∷ lines) = finding (b ∷ lines) true

-- what is found about a part, as a line
abbrev pub finding_in : Format → List ℕ → List RuleValue → List Span → FindingValue → List ℕ
finding_in Text text rules spans f = finding_line text rules spans f
finding_in Json text rules spans f = json_line (finding_object text rules spans f)

-- a line for each part of a rule that decides nothing, by the permissions that each rule decides
abbrev pub IsLinted : Format → List ℕ → List RuleValue → Output → Type 0
IsLinted format text rules output = (decided : List Perms) × AreDecided rules decided
    × ((findings : List FindingValue) × AreFindings rules decided findings
    × (output ≡ answer_of (flat_map (finding_in format text rules (spans_of text)) findings)))

-- on a text that was read, or that is refused
abbrev pub IsLintOutputOf : Format → List ℕ → Result ProfileValue ReadFault → Output → Type 0
IsLintOutputOf format text (Err f) output = output ≡ fault (refusal f) Refused
IsLintOutputOf format text (Ok profile) output = IsRefused profile.rules output
    ⊎ (IsAnswerable profile.rules × IsLinted format text profile.rules output)

-- what `lint` writes on a text
abbrev pub IsLintOutput : Format → List ℕ → Output → Type 0
IsLintOutput format text output = IsLintOutputOf format text (outcome_of text) output
