use Rattle.clap.specs.Words.{found_of}
use Rattle.trace_arguments.proofs.Flags.{flag_given}
use Rattle.trace_arguments.proofs.found.flag_in.Goals as goal

pub returns : goal.returns
returns c = flag_given (found_of c.args.found.now) c.args.name.now c.get_flag.result c.requires c.get_flag.ensures.value
    c.get_flag.ensures.other
