-- How it is reported that rules can't be compiled or compared.
use Rattle.std.specs.Prelude.{◌≡◌, List}
use Rattle.glob_automaton.specs.Automata.{most_sets}
use Rattle.glob_automaton.specs.Sets.{AreMoreThan}
use Rattle.matcher.specs.declared.fault.MakeFault.TheVariants as making
use Rattle.profile_questions.specs.Faults.{IsQuestionFault}
use Rattle.profile_questions.specs.declared.fault.QuestionFault.TheVariants as question
use Rattle.rule_globs.specs.Rules.{RuleValue}
use Rattle.trace_report.specs.declared.fault.Fault.{Fault}
use Rattle.trace_report.specs.declared.fault.Fault.TheVariants.{Compiling, Memory, Question}

abbrev pub IsMemory : Fault → Type 0
IsMemory f = f ≡ Memory

-- too many states, or no memory
abbrev pub IsCompileRefusal : List RuleValue → Fault → Type 0
IsCompileRefusal rules Memory = Unit {0}
IsCompileRefusal rules f = (f ≡ Compiling making.TooManyStates) × AreMoreThan most_sets rules

-- too many states of all together, or no memory
abbrev pub IsQuestionRefusal : List RuleValue → List RuleValue → List RuleValue → Fault → Type 0
IsQuestionRefusal one two three Memory = Unit {0}
IsQuestionRefusal one two three f = (f ≡ Question) × IsQuestionFault one two three question.TooManyStates
