use Rattle.trace_arguments.proofs.found.each_rule_in.Goals as goal

pub returns : goal.returns
returns c = c.flag_in.ensures
