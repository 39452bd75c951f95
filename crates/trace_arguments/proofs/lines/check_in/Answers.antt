use Rattle.std.proofs.Common.{codes, refl}
use Rattle.clap.specs.Words.{found_of}
use Rattle.trace_arguments.specs.CommandLine.{check_command}
use Rattle.trace_arguments.proofs.Asked.{flag_asked, flag_said}
use Rattle.trace_arguments.proofs.lines.check_in.Goals as goal

pub flag_in-requires : goal.flag_in-requires
flag_in-requires c = flag_asked check_command (found_of c.args.found.now) c.requires (codes "verbose") refl

pub returns : goal.returns
returns c = λ given is.
    let found = found_of c.args.found.now in
    rw (flag_said check_command found given is (codes "verbose") c.flag_in.result refl c.flag_in.ensures) refl
