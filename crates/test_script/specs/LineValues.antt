-- What the parts of a line that was read stand for.
use Rattle.std.specs.Prelude.{ℕ, List, Option, option_map, map, Vec}
use Rattle.std.specs.declared.alloc.Global.{Global}
use Rattle.trace_script.specs.declared.line.LineKind.{LineKind as LineKindHere}
use Rattle.trace_script.specs.LineValues.{command_value, kind_by}
use Rattle.trace_script.specs.Script.{LineOf, command}
use Rattle.test_script.specs.declared.line.Question.{Question as QuestionHere}
use Rattle.test_script.specs.declared.line.Asked.{Asked as AskedHere}
use Rattle.test_script.specs.declared.line.Asked.TheVariants.{Run, Judge, Explain}
use Rattle.test_script.specs.declared.line.TestCommand.{TestCommand as TestCommandHere}
use Rattle.test_script.specs.declared.line.TestCommand.TheVariants.{Ask, Expect}
use Rattle.test_script.specs.TestScript.{Question, Asked, run, judge, explain, TestCommand, ask, expect}

abbrev pub question_value : QuestionHere → Question
question_value q = record { profile = q.profile.now; name = q.name.now; ask = q.ask }

abbrev pub asked_value : AskedHere → Asked
asked_value (Run c) = run (command_value c)
asked_value (Judge q) = judge (question_value q)
asked_value (Explain q) = explain (question_value q)

abbrev pub test_value : TestCommandHere → TestCommand
test_value (Ask number c) = ask number (asked_value c)
test_value (Expect number text) = expect number text.now

abbrev pub test_kind_value : LineKindHere TestCommandHere → LineOf TestCommand
test_kind_value kind = kind_by test_value kind

abbrev pub asked_by : ℕ → AskedHere → LineOf TestCommand
asked_by number c = command (ask number (asked_value c))

-- the words of a line, if it has any
abbrev pub words_value : Option (Vec (Vec ℕ Global) Global) → Option (List (List ℕ))
words_value words = option_map (λ (ws : Vec (Vec ℕ Global) Global). map (λ (w : Vec ℕ Global). w.items) ws.items) words
