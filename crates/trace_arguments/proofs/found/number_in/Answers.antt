use Rattle.std.proofs.Common.{◌∙◌}
use Rattle.clap.specs.Words.{found_of}
use Rattle.trace_arguments.proofs.Numbers.{number_given}
use Rattle.trace_arguments.proofs.found.number_in.Goals as goal

pub unwrap-requires : goal.unwrap-requires
unwrap-requires c =
    let read = number_given (found_of c.args.found.now) c.args.name.now c.get_one.result c.requires c.get_one.ensures.value in
    rw read at c.requires

pub returns : goal.returns
returns c = number_given (found_of c.args.found.now) c.args.name.now c.get_one.result c.requires c.get_one.ensures.value ∙ c.unwrap.ensures
