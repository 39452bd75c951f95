use Rattle.std.proofs.Common.{codes, refl}
use Rattle.clap.specs.Words.{found_of}
use Rattle.trace_arguments.specs.CommandLine.{capacity, test_command}
use Rattle.trace_arguments.proofs.Asked.{flag_asked, flag_said, format_said, number_asked, number_most, number_said}
use Rattle.trace_arguments.proofs.lines.test_in.Goals as goal

pub number_in-requires : goal.number_in-requires
number_in-requires c = number_asked test_command (found_of c.args.found.now) c.requires capacity refl

pub flag_in-requires : goal.flag_in-requires
flag_in-requires c = flag_asked test_command (found_of c.args.found.now) c.requires (codes "answers") refl

pub flag_in-requires-2 : goal.flag_in-requires-2
flag_in-requires-2 c = flag_asked test_command (found_of c.args.found.now) c.requires (codes "verbose") refl

pub format_in-requires : goal.format_in-requires
format_in-requires c = flag_asked test_command (found_of c.args.found.now) c.requires (codes "json") refl

pub returns-clause-line : goal.returns-clause-line
returns-clause-line c = λ given is.
    let found = found_of c.args.found.now in
    rw (
      number_said test_command found given is capacity c.number_in.result refl c.number_in.ensures,
      flag_said test_command found given is (codes "answers") c.flag_in.result refl c.flag_in.ensures,
      flag_said test_command found given is (codes "verbose") c.flag_in-2.result refl c.flag_in-2.ensures,
      format_said test_command found given is c.format_in.result refl c.format_in.ensures,
    ) refl

pub returns-clause-capacity : goal.returns-clause-capacity
returns-clause-capacity c =
    number_most test_command (found_of c.args.found.now) c.requires.0 c.requires.1 capacity c.number_in.result refl c.number_in.ensures
