use Rattle.std.proofs.Common.{codes, refl}
use Rattle.clap.specs.Words.{found_of}
use Rattle.trace_arguments.specs.CommandLine.{names_command}
use Rattle.trace_arguments.proofs.Asked.{flag_asked, flag_said, perms_asked, second_asked, text_said}
use Rattle.trace_arguments.proofs.lines.names_in.Goals as goal

pub text_in-requires : goal.text_in-requires
text_in-requires c = perms_asked names_command (codes "PROFILE") refl (found_of c.args.found.now) c.requires refl

pub text_in-requires-2 : goal.text_in-requires-2
text_in-requires-2 c = second_asked names_command (codes "PROFILE") refl (found_of c.args.found.now) c.requires refl

pub flag_in-requires : goal.flag_in-requires
flag_in-requires c = flag_asked names_command (found_of c.args.found.now) c.requires (codes "not-allowed") refl

pub flag_in-requires-2 : goal.flag_in-requires-2
flag_in-requires-2 c = flag_asked names_command (found_of c.args.found.now) c.requires (codes "verdict") refl

pub flag_in-requires-3 : goal.flag_in-requires-3
flag_in-requires-3 c = flag_asked names_command (found_of c.args.found.now) c.requires (codes "null") refl

pub returns : goal.returns
returns c = λ given is.
    let found = found_of c.args.found.now in
    rw (
      text_said names_command found given is (codes "PERMS") c.text_in.result.now refl c.text_in.ensures,
      text_said names_command found given is (codes "PROFILE") c.text_in-2.result.now refl c.text_in-2.ensures,
      flag_said names_command found given is (codes "not-allowed") c.flag_in.result refl c.flag_in.ensures,
      flag_said names_command found given is (codes "verdict") c.flag_in-2.result refl c.flag_in-2.ensures,
      flag_said names_command found given is (codes "null") c.flag_in-3.result refl c.flag_in-3.ensures,
    ) refl
