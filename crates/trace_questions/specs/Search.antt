-- What `any PERMS PATTERN`, with or without `--each-rule`, and `all PERMS PATTERN` write, memory and failures of the streams aside.
use Rattle.std.specs.Prelude.{◌≡◌, ◌⊎◌, ℕ, true, false, List, [], ◌∷◌, ◌++◌, Result, Ok, Err, codes}
use Rattle.std.specs.List.{flat_map}
use Rattle.derived_profiles.specs.Pattern.{read_rule}
use Rattle.names.specs.declared.permissions.Perms.{Perms}
use Rattle.rule_explain.specs.Explanations.{reason_lines}
use Rattle.rule_globs.specs.Rules.{RuleValue, ProfileValue}
use Rattle.rule_globs.specs.Tokens.{Token}
use Rattle.rule_profile.specs.declared.profile.Span.{Span}
use Rattle.rule_reader.specs.ReadText.{outcome_of}
use Rattle.rule_reader.specs.Spans.{spans_of}
use Rattle.rule_reader.specs.declared.fault.ReadFault.{ReadFault}
use Rattle.answer_json.specs.Lines.{json_line}
use Rattle.trace_questions.specs.Asked.{asked_of}
use Rattle.trace_questions.specs.Objects.{found_object, found_word, nothing_object, nothing_word}
use Rattle.question_answers.specs.Findings.{Finding, IsFinding, found, no_name}
use Rattle.trace_questions.specs.Refusals.{IsAnswerable, IsRefused}
use Rattle.trace_questions.specs.Shown.{shown_name}
use Rattle.question_answers.specs.declared.quantifier.Quantifier.{Quantifier}
use Rattle.trace_report.specs.declared.format.Format.{Format}
use Rattle.trace_report.specs.declared.format.Format.TheVariants.{Json, Text}
use Rattle.trace_report.specs.Output.{Output, fault, finding, line, refusal}
use Rattle.trace_report.specs.declared.status.Status.TheVariants.{BadArguments, Refused}

-- where no name that is taken is found
abbrev pub nothing_text : Format → Quantifier → List ℕ
nothing_text Text quantifier = line (nothing_word quantifier)
nothing_text Json quantifier = json_line (nothing_object (nothing_word quantifier))

-- where no name is taken
abbrev pub no_name_text : Format → List ℕ
no_name_text Text = line (codes "no name matches")
no_name_text Json = json_line (nothing_object (codes "no name matches"))

-- a line for a name, and below it the reasons for each permission; or one object
abbrev pub name_text : Format → Quantifier → List ℕ → List RuleValue → List Span → Perms → List ℕ → List ℕ
name_text Text quantifier text rules spans ask name =
    found_word quantifier ++ codes " " ++ line (shown_name name) ++ reason_lines text rules spans name ask
name_text Json quantifier text rules spans ask name = json_line (found_object quantifier text rules spans ask name)

-- the names that are listed, or that there are none
abbrev pub search_text : Format → Quantifier → List ℕ → List RuleValue → List Span → Perms → Finding → Output
search_text format quantifier text rules spans ask no_name = finding (no_name_text format) false
search_text format quantifier text rules spans ask (found []) = finding (nothing_text format quantifier) false
search_text format quantifier text rules spans ask (found (name ∷ names)) =
    finding (flat_map (name_text format quantifier text rules spans ask) (name ∷ names)) true

-- what is written on a profile that was read
abbrev pub IsSearchOf : Format → Quantifier → Perms → List Token → List ℕ → List RuleValue → Output → Type 0
IsSearchOf format quantifier ask path text rules output = IsRefused rules [] (read_rule path ∷ []) output
    ⊎ (IsAnswerable rules [] (read_rule path ∷ []) × (what : Finding) × IsFinding quantifier rules path ask what
    × (output ≡ search_text format quantifier text rules (spans_of text) ask what))

-- the same, or what is written on a text that is refused
abbrev pub IsSearchOutputOf : Format → Quantifier → Perms → List Token → List ℕ → Result ProfileValue ReadFault → Output → Type 0
IsSearchOutputOf format quantifier ask path text (Err f) output = output ≡ fault (refusal f) Refused
IsSearchOutputOf format quantifier ask path text (Ok profile) output = IsSearchOf format quantifier ask path text profile.rules output

-- for what is asked, or for the message about the arguments
abbrev pub IsSearchOutputFor : Format → Quantifier → Result (Perms × List Token) (List ℕ) → List ℕ → Output → Type 0
IsSearchOutputFor format quantifier (Err told) text output = output ≡ fault told BadArguments
IsSearchOutputFor format quantifier (Ok asked) text output = IsSearchOutputOf format quantifier asked.0 asked.1 text
    (outcome_of text) output

-- what `any PERMS PATTERN` or `all PERMS PATTERN` writes on a text, in either format
abbrev pub IsSearchOutput : Format → Quantifier → List ℕ → List ℕ → List ℕ → Output → Type 0
IsSearchOutput format quantifier perms pattern text output = IsSearchOutputFor format quantifier (asked_of perms pattern) text output
