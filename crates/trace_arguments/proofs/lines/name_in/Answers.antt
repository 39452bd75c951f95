use Rattle.std.proofs.Common.{codes, refl}
use Rattle.clap.specs.Words.{found_of}
use Rattle.trace_arguments.specs.inner.Parser.{command_of_name}
use Rattle.trace_arguments.proofs.Asked.{flag_asked, flag_said, format_said, no_capacity, perms_asked, second_asked, text_said}
use Rattle.trace_arguments.proofs.lines.name_in.Goals as goal

pub text_in-requires : goal.text_in-requires
text_in-requires c = perms_asked (command_of_name c.args.command) (codes "NAME") refl (found_of c.args.found.now) c.requires refl

pub text_in-requires-2 : goal.text_in-requires-2
text_in-requires-2 c = second_asked (command_of_name c.args.command) (codes "NAME") refl (found_of c.args.found.now) c.requires refl

pub format_in-requires : goal.format_in-requires
format_in-requires c = flag_asked (command_of_name c.args.command) (found_of c.args.found.now) c.requires (codes "json") refl

pub flag_in-requires : goal.flag_in-requires
flag_in-requires c = flag_asked (command_of_name c.args.command) (found_of c.args.found.now) c.requires (codes "quiet") refl

pub flag_in-requires-2 : goal.flag_in-requires-2
flag_in-requires-2 c = flag_asked (command_of_name c.args.command) (found_of c.args.found.now) c.requires (codes "verbose") refl

pub returns-clause-line : goal.returns-clause-line
returns-clause-line c = λ given is.
    let found = found_of c.args.found.now in
    let form = command_of_name c.args.command in
    rw (
      text_said form found given is (codes "PERMS") c.text_in.result.now refl c.text_in.ensures,
      text_said form found given is (codes "NAME") c.text_in-2.result.now refl c.text_in-2.ensures,
      format_said form found given is c.format_in.result refl c.format_in.ensures,
      flag_said form found given is (codes "quiet") c.flag_in.result refl c.flag_in.ensures,
      flag_said form found given is (codes "verbose") c.flag_in-2.result refl c.flag_in-2.ensures,
    ) refl

pub returns-clause-capacity : goal.returns-clause-capacity
returns-clause-capacity c =
    no_capacity c.args.command c.text_in.result.now c.text_in-2.result.now c.format_in.result c.flag_in.result
