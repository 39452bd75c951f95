use Rattle.std.proofs.Common.{refl}
use Rattle.clap.specs.Words.{found_of}
use Rattle.trace_arguments.specs.CommandLine.{changes, opens, sessions, storm_command}
use Rattle.trace_arguments.proofs.Asked.{number_asked, number_said}
use Rattle.trace_arguments.proofs.lines.storm_in.Goals as goal

pub number_in-requires : goal.number_in-requires
number_in-requires c = number_asked storm_command (found_of c.args.found.now) c.requires sessions refl

pub number_in-requires-2 : goal.number_in-requires-2
number_in-requires-2 c = number_asked storm_command (found_of c.args.found.now) c.requires opens refl

pub number_in-requires-3 : goal.number_in-requires-3
number_in-requires-3 c = number_asked storm_command (found_of c.args.found.now) c.requires changes refl

pub returns : goal.returns
returns c = λ given is.
    let found = found_of c.args.found.now in
    rw (
      number_said storm_command found given is sessions c.number_in.result refl c.number_in.ensures,
      number_said storm_command found given is opens c.number_in-2.result refl c.number_in-2.ensures,
      number_said storm_command found given is changes c.number_in-3.result refl c.number_in-3.ensures,
    ) refl
