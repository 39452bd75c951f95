-- What the parts of a lint return, compared with what is to be written.
use Rattle.std.specs.Prelude.{◌≡◌, ℕ, List, [], Result, Ok, Err, Vec}
use Rattle.std.specs.declared.alloc.Global.{Global}
use Rattle.glob_automaton.specs.Automata.{most_sets}
use Rattle.glob_automaton.specs.Sets.{AreMoreThan}
use Rattle.matcher.specs.declared.fault.MakeFault.TheVariants as making
use Rattle.profile_questions.specs.Faults.{IsQuestionFault}
use Rattle.profile_questions.specs.declared.fault.QuestionFault.TheVariants as question
use Rattle.rule_globs.specs.Rules.{ProfileValue, RuleValue}
use Rattle.trace_lint.specs.LintOutput.{answer_of}
use Rattle.trace_report.specs.Fault.{IsFaultOfAnswer}
use Rattle.trace_report.specs.Output.{Output}
use Rattle.trace_report.specs.declared.fault.Fault.{Fault}
use Rattle.trace_report.specs.declared.fault.Fault.TheVariants.{Compiling, Memory, Question}

-- a profile that has these rules
abbrev pub profile_with : List RuleValue → ProfileValue
profile_with rules = record { name = []; rules = rules }

-- too many states, or no memory
abbrev pub IsCompileRefusal : List RuleValue → Fault → Type 0
IsCompileRefusal rules Memory = Unit {0}
IsCompileRefusal rules f = (f ≡ Compiling making.TooManyStates) × AreMoreThan most_sets rules

-- too many sets of live places, or no memory
abbrev pub IsQuestionRefusal : List RuleValue → Fault → Type 0
IsQuestionRefusal rules Memory = Unit {0}
IsQuestionRefusal rules f = (f ≡ Question) × IsQuestionFault rules [] [] question.TooManyStates

-- lines that may be written, or a fault in their place
abbrev pub IsAnswered : (Output → Type 0) → Result (Vec ℕ Global) Fault → Type 0
IsAnswered Wanted (Ok lines) = Wanted (answer_of lines.items)
IsAnswered Wanted (Err f) = IsFaultOfAnswer Wanted f
