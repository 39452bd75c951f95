use Rattle.std.proofs.Common.{codes, refl}
use Rattle.clap.specs.Words.{found_of}
use Rattle.trace_arguments.specs.CommandLine.{any_command}
use Rattle.trace_arguments.proofs.Asked.{flag_asked, flag_said, format_said, perms_asked, second_asked, text_said}
use Rattle.trace_arguments.proofs.lines.any_in.Goals as goal

pub text_in-requires : goal.text_in-requires
text_in-requires c = perms_asked any_command (codes "PATTERN") refl (found_of c.args.found.now) c.requires refl

pub text_in-requires-2 : goal.text_in-requires-2
text_in-requires-2 c = second_asked any_command (codes "PATTERN") refl (found_of c.args.found.now) c.requires refl

pub each_rule_in-requires : goal.each_rule_in-requires
each_rule_in-requires c = flag_asked any_command (found_of c.args.found.now) c.requires (codes "each-rule") refl

pub format_in-requires : goal.format_in-requires
format_in-requires c = flag_asked any_command (found_of c.args.found.now) c.requires (codes "json") refl

pub returns : goal.returns
returns c = λ given is.
    let found = found_of c.args.found.now in
    rw (
      text_said any_command found given is (codes "PERMS") c.text_in.result.now refl c.text_in.ensures,
      text_said any_command found given is (codes "PATTERN") c.text_in-2.result.now refl c.text_in-2.ensures,
      flag_said any_command found given is (codes "each-rule") c.each_rule_in.result refl c.each_rule_in.ensures,
      format_said any_command found given is c.format_in.result refl c.format_in.ensures,
    ) refl
