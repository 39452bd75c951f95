use Rattle.std.proofs.Common.{codes, refl}
use Rattle.clap.specs.Words.{found_of}
use Rattle.trace_arguments.specs.CommandLine.{capacity, steps_command}
use Rattle.trace_arguments.proofs.Asked.{flag_asked, flag_said, number_asked, number_most, number_said}
use Rattle.trace_arguments.proofs.lines.steps_in.Goals as goal

pub number_in-requires : goal.number_in-requires
number_in-requires c = number_asked steps_command (found_of c.args.found.now) c.requires capacity refl

pub flag_in-requires : goal.flag_in-requires
flag_in-requires c = flag_asked steps_command (found_of c.args.found.now) c.requires (codes "verbose") refl

pub returns-clause-line : goal.returns-clause-line
returns-clause-line c = λ given is.
    let found = found_of c.args.found.now in
    rw (
      number_said steps_command found given is capacity c.number_in.result refl c.number_in.ensures,
      flag_said steps_command found given is (codes "verbose") c.flag_in.result refl c.flag_in.ensures,
    ) refl

pub returns-clause-capacity : goal.returns-clause-capacity
returns-clause-capacity c =
    number_most steps_command (found_of c.args.found.now) c.requires.0 c.requires.1 capacity c.number_in.result refl c.number_in.ensures
