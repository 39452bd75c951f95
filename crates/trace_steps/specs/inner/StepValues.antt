-- What commands of the code represent.
use Rattle.trace_script.specs.declared.line.LineKind.{LineKind as LineKindHere}
use Rattle.trace_script.specs.LineValues.{change_words, kind_by}
use Rattle.trace_script.specs.Script.{LineOf}
use Rattle.event_machine.specs.Coded.{event_of}
use Rattle.trace_steps.specs.declared.command.StepCommand.{StepCommand as StepCommandHere}
use Rattle.trace_steps.specs.declared.command.StepCommand.TheVariants.{Remove, Alter, Open, Single, ReadCells, Finish, Keep, SetCells}
use Rattle.trace_steps.specs.declared.command.StepCommand.TheVariants.{Close}
use Rattle.trace_steps.specs.StepScript.{StepCommand, remove_profile, alter_whole, open_whole, single, cells_read, finish, keep, cells_set}
use Rattle.trace_steps.specs.StepScript.{close}

abbrev pub step_value : StepCommandHere → StepCommand
step_value (Remove name) = remove_profile name.now
step_value (Alter words) = alter_whole (change_words words)
step_value (Open profile path ask) = open_whole (record { profile = profile.now; path = path.now; ask = ask })
step_value (Single event) = single (event_of event)
step_value (ReadCells session most) = cells_read session most
step_value (Finish session) = finish session
step_value (Keep words) = keep (change_words words)
step_value (SetCells most) = cells_set most
step_value Close = close

abbrev pub step_kind_value : LineKindHere StepCommandHere → LineOf StepCommand
step_kind_value kind = kind_by step_value kind
