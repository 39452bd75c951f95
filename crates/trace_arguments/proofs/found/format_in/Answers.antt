use Rattle.std.proofs.Common.{ap, option_map}
use Rattle.trace_arguments.specs.CommandLine.{format_by}
use Rattle.trace_arguments.proofs.found.format_in.Goals as goal

pub returns-then-flag_in : goal.returns-then-flag_in
returns-then-flag_in c = ap (option_map format_by) c.if-flag_in.ensures

pub returns-else-flag_in : goal.returns-else-flag_in
returns-else-flag_in c = ap (option_map format_by) c.if-flag_in.ensures
