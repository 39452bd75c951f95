-- The engine of `run`.
use Rattle.std.specs.Prelude.{[], ◌∷◌}
use Rattle.glob_automaton.specs.Automata.{StateLimit}
use Rattle.mediation.specs.History.{History}
use Rattle.trace_script.specs.FollowedScripts.{ExactEngine, Step}
use Rattle.trace_script.specs.RunOutput.{Printed, printed}
use Rattle.trace_script.specs.Script.{Command, run_grammar}

-- a command that prints one line
abbrev pub one_line_step : Printed → Step History
one_line_step p = record { lines = p.text ∷ []; state = p.history }

abbrev pub run_engine : StateLimit → ExactEngine Command History
run_engine limit = record { grammar = run_grammar; does = λ history c. one_line_step (printed limit history c) }
