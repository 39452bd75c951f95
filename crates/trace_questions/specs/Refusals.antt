-- Why a question about rules that were read isn't answered.
use Rattle.std.specs.Prelude.{◌≡◌, ◌⊎◌, List}
use Rattle.glob_automaton.specs.Automata.{most_sets}
use Rattle.glob_automaton.specs.Sets.{AreMoreThan}
use Rattle.matcher.specs.declared.fault.MakeFault.TheVariants.{TooManyStates}
use Rattle.profile_questions.specs.Faults.{IsQuestionFault}
use Rattle.profile_questions.specs.declared.fault.QuestionFault.TheVariants as question
use Rattle.rule_globs.specs.Rules.{RuleValue}
use Rattle.trace_report.specs.Output.{Output, compile_refusal, fault, question_refusal}
use Rattle.trace_report.specs.declared.status.Status.TheVariants.{Refused}

-- one of three lists of rules has too many states
abbrev pub IsOneTooLarge : List RuleValue → List RuleValue → List RuleValue → Type 0
IsOneTooLarge one two three = AreMoreThan most_sets one ⊎ (AreMoreThan most_sets two ⊎ AreMoreThan most_sets three)

-- what is written where one of them has too many states, or all together have
abbrev pub IsRefused : List RuleValue → List RuleValue → List RuleValue → Output → Type 0
IsRefused one two three output = (IsOneTooLarge one two three × (output ≡ fault (compile_refusal TooManyStates) Refused))
    ⊎ (IsQuestionFault one two three question.TooManyStates × (output ≡ fault question_refusal Refused))

-- none of them has too many states, nor have all together
abbrev pub IsAnswerable : List RuleValue → List RuleValue → List RuleValue → Type 0
IsAnswerable one two three = ¬ (IsOneTooLarge one two three) × ¬ (IsQuestionFault one two three question.TooManyStates)
