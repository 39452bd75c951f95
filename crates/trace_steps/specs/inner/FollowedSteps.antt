-- The engine of `steps`.
use Rattle.glob_automaton.specs.Automata.{StateLimit}
use Rattle.event_machine.specs.Machine.{Machine}
use Rattle.trace_script.specs.FollowedScripts.{Engine}
use Rattle.trace_steps.specs.StepLines.{Does}
use Rattle.trace_steps.specs.StepScript.{StepCommand, step_grammar}

abbrev pub step_engine : StateLimit → Engine StepCommand Machine
step_engine limit = record { grammar = step_grammar; Does = Does limit }
