-- What a line of a script says, whatever its command, in each language of scripts.
use Rattle.std.specs.Prelude.{ℕ, List}
use Rattle.script_notes.specs.declared.line.Script.{Script}
use Rattle.script_notes.specs.declared.line.Script.TheVariants.{Run, Steps, Test}
use Rattle.script_notes.specs.declared.line.Says.{Says}
use Rattle.script_notes.specs.declared.line.Says.TheVariants.{Nothing, OpensPolicy, Command, NoCommand}
use Rattle.trace_script.specs.Script.{LineOf, ignored, opens_policy, command, no_command, line_kind, words_of}
use Rattle.trace_steps.specs.StepScript.{step_kind}
use Rattle.test_script.specs.TestScript.{test_kind}

abbrev pub says : {C : Type 0} → LineOf C → Says
says ignored = Nothing
says opens_policy = OpensPolicy
says (command c) = Command
says no_command = NoCommand

-- the line of this number
abbrev pub says_in : Script → ℕ → List ℕ → Says
says_in Run number line = says (line_kind (words_of line))
says_in Steps number line = says (step_kind (words_of line))
says_in Test number line = says (test_kind number line)
