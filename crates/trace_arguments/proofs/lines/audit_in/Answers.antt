use Rattle.std.proofs.Common.{codes, refl}
use Rattle.clap.specs.Words.{found_of}
use Rattle.trace_arguments.specs.CommandLine.{audit_command}
use Rattle.trace_arguments.proofs.Asked.{flag_asked, format_said, texts_there}
use Rattle.trace_arguments.proofs.lines.audit_in.Goals as goal

pub format_in-requires : goal.format_in-requires
format_in-requires c = flag_asked audit_command (found_of c.args.found.now) c.requires (codes "json") refl

pub returns : goal.returns
returns c = λ given is.
    let found = found_of c.args.found.now in
    rw (
      format_said audit_command found given is c.format_in.result refl c.format_in.ensures,
      c.in_ok-profiles.ensures,
      texts_there audit_command found given is (codes "PROFILES") refl,
    ) refl
