use Rattle.trace_arguments.proofs.parser.with_profile_commands.Goals as goal

pub returns : goal.returns
returns c = c.with_commands.ensures
