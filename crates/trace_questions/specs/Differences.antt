-- What `diff OLD [NEW]` writes, with or without `--each-rule`, memory and failures of the streams aside.
use Rattle.std.specs.Prelude.{◌≡◌, ◌⊎◌, ℕ, true, false, List, [], ◌∷◌, ◌++◌, Option, Some, None, Result, Ok, Err, codes}
use Rattle.std.specs.List.{flat_map}
use Rattle.glob_automaton.specs.Automata.{most_sets}
use Rattle.glob_automaton.specs.Sets.{AreMoreThan}
use Rattle.matcher.specs.declared.fault.MakeFault.TheVariants.{TooManyStates}
use Rattle.names.specs.Permissions.{all_permissions, letter}
use Rattle.names.specs.declared.permissions.Permission.{Permission}
use Rattle.profile_questions.specs.Faults.{IsQuestionFault}
use Rattle.profile_questions.specs.declared.fault.QuestionFault.TheVariants as question
use Rattle.rule_explain.specs.Explanations.{reason_text}
use Rattle.rule_explain.specs.Reasons.{reason}
use Rattle.rule_globs.specs.Rules.{RuleValue, ProfileValue}
use Rattle.rule_globs.specs.Tokens.{Token}
use Rattle.rule_reader.specs.ReadText.{outcome_of}
use Rattle.rule_reader.specs.Spans.{spans_of}
use Rattle.rule_reader.specs.declared.fault.ReadFault.{ReadFault}
use Rattle.trace_questions.specs.Asked.{path_asked}
use Rattle.question_answers.specs.Alone.{AreAlone}
use Rattle.question_answers.specs.Below.{IsBelow, rules_below}
use Rattle.trace_questions.specs.Shown.{shown_name}
use Rattle.question_answers.specs.declared.side.Side.{Side}
use Rattle.question_answers.specs.declared.side.Side.TheVariants.{Old, New}
use Rattle.answer_json.specs.Lines.{json_line}
use Rattle.trace_questions.specs.Refusals.{IsAnswerable}
use Rattle.trace_questions.specs.Objects.{named_difference, reason_by, word_object}
use Rattle.trace_questions.specs.declared.report.Report.{Report}
use Rattle.trace_report.specs.declared.format.Format.{Format}
use Rattle.trace_report.specs.declared.format.Format.TheVariants.{Json, Text}
use Rattle.trace_report.specs.Output.{Output, compile_refusal, fault, finding, line, question_refusal, refusal}
use Rattle.trace_report.specs.declared.status.Status.TheVariants.{BadArguments, Refused}

-- a profile that was read, and its text
pub record ReadText : Type 0 where
  pub text : List ℕ
  pub rules : List RuleValue

-- the two profiles
pub record Versions : Type 0 where
  pub old : ReadText
  pub new : ReadText

-- what one of the profiles says of a permission
abbrev pub reason_in : ReadText → Permission → List ℕ → List ℕ
reason_in t p name = reason_text t.text t.rules (spans_of t.text) (reason t.rules name p)

abbrev pub sign : Side → List ℕ
sign New = codes "+ "
sign Old = codes "- "

-- `+ w /etc/a: allowed by rule 209, line 210: "/etc/**" w,; was: no rule`, or an object
abbrev pub difference_text : Format → Versions → Permission → Side → List ℕ → List ℕ
difference_text Json v p side name = json_line (named_difference side p name (reason_by v.new.text v.new.rules p name)
    (reason_by v.old.text v.old.rules p name))
difference_text Text v p side name = sign side ++ letter p ∷ codes " " ++ shown_name name ++ codes ": " ++ reason_in v.new p name
    ++ codes "; was: " ++ line (reason_in v.old p name)

-- each permission, as what the new profile allows in addition and what it no longer allows
abbrev pub all_differences : List (Permission × Side)
all_differences = flat_map (λ p. (p, New) ∷ (p, Old) ∷ []) all_permissions

-- for each of them a line for each name that is listed
abbrev pub AreDifferences : Report → Option (List Token) → Versions → List (Permission × Side) → List ℕ → Type 0
AreDifferences report below v [] lines = lines ≡ []
AreDifferences report below v (d ∷ ds) lines =
    (names : List (List ℕ)) × AreAlone report.witnesses below v.old.rules v.new.rules d.0 d.1 names
    × ((others : List ℕ) × AreDifferences report below v ds others × (lines ≡ flat_map
    (difference_text report.format v d.0 d.1) names ++ others))

-- an answer of these words alone
abbrev pub words_text : Format → List ℕ → List ℕ
words_text Text words = line words
words_text Json words = json_line (word_object words)

-- the lines, or that there are none
abbrev pub answer_of : Format → List ℕ → Output
answer_of format [] = finding (words_text format (codes "same")) false
answer_of format (b ∷ lines) = finding (b ∷ lines) true

-- no name is matched where only names that a path matches are compared
abbrev pub TakesNone : Option (List Token) → Type 0
TakesNone below = (name : List ℕ) → ¬ (IsBelow below name)

abbrev pub IsCompared : Report → Option (List Token) → Versions → Output → Type 0
IsCompared report below v output = (TakesNone below × (output ≡ finding (words_text report.format (codes "no name matches")) false))
    ⊎ (((name : List ℕ) × IsBelow below name)
    × ((lines : List ℕ) × AreDifferences report below v all_differences lines × (output ≡ answer_of report.format lines)))

abbrev pub side_text : Side → List ℕ
side_text Old = codes " in OLD"
side_text New = codes " in NEW"

-- rules have too many states, which is reported with what follows
abbrev pub IsTooLarge : List RuleValue → List ℕ → Output → Type 0
IsTooLarge rules place output = AreMoreThan most_sets rules × (output ≡ fault (compile_refusal TooManyStates ++ place) Refused)

-- what is written where a profile or the path has too many states, or all together have
abbrev pub IsRefusedDiff : Option (List Token) → Versions → Output → Type 0
IsRefusedDiff below v output = IsTooLarge v.old.rules (side_text Old) output
    ⊎ (IsTooLarge v.new.rules (side_text New) output ⊎ (IsTooLarge (rules_below below) [] output
    ⊎ (IsQuestionFault v.old.rules v.new.rules (rules_below below) question.TooManyStates × (output ≡ fault question_refusal Refused))))

-- on two profiles that were read
abbrev pub IsDiffOf : Report → Option (List Token) → Versions → Output → Type 0
IsDiffOf report below v output = IsRefusedDiff below v output
    ⊎ (IsAnswerable v.old.rules v.new.rules (rules_below below) × IsCompared report below v output)

-- the two profiles that were read, with their texts
abbrev pub versions_of : List ℕ → List RuleValue → List ℕ → List RuleValue → Versions
versions_of old one new two = record { old = record { text = old; rules = one }; new = record { text = new; rules = two } }

-- on two texts that were read, or of which one is refused
abbrev pub IsDiffOutputOf : Report → Option (List Token) → List ℕ → List ℕ → Result ProfileValue ReadFault →
    Result ProfileValue ReadFault → Output → Type 0
IsDiffOutputOf report below old new (Err f) other output = output ≡ fault (refusal f ++ side_text Old) Refused
IsDiffOutputOf report below old new (Ok one) (Err f) output = output ≡ fault (refusal f ++ side_text New) Refused
IsDiffOutputOf report below old new (Ok one) (Ok two) output =
    IsDiffOf report below (versions_of old one.rules new two.rules) output

-- the path that is given, if one is
abbrev pub below_asked : Option (List ℕ) → Result (Option (List Token)) (List ℕ)
below_asked None = Ok None
below_asked (Some pattern) = elim (path_asked pattern) [ Err told ↦ Err told | Ok path ↦ Ok (Some path) ]

abbrev pub IsDiffOutputFor : Report → Result (Option (List Token)) (List ℕ) → List ℕ → List ℕ → Output → Type 0
IsDiffOutputFor report (Err told) old new output = output ≡ fault told BadArguments
IsDiffOutputFor report (Ok below) old new output = IsDiffOutputOf report below old new (outcome_of old) (outcome_of new) output

-- what `diff --below PATTERN` writes on two texts, with or without `--each-rule`, in either format
abbrev pub IsDiffOutput : Report → Option (List ℕ) → List ℕ → List ℕ → Output → Type 0
IsDiffOutput report pattern old new output = IsDiffOutputFor report (below_asked pattern) old new output
