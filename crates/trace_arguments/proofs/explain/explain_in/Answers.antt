use Rattle.std.proofs.Common.{codes, refl}
use Rattle.clap.specs.Words.{found_of}
use Rattle.trace_arguments.specs.CommandLine.{explain_command}
use Rattle.trace_arguments.proofs.Asked.{flag_asked, perms_asked, second_asked}
use Rattle.trace_arguments.proofs.explain.explain_in.Goals as goal

pub text_in-perms-requires : goal.text_in-perms-requires
text_in-perms-requires c = perms_asked explain_command (codes "NAME") refl (found_of c.args.found.now) c.requires refl

pub text_in-name-requires : goal.text_in-name-requires
text_in-name-requires c = second_asked explain_command (codes "NAME") refl (found_of c.args.found.now) c.requires refl

pub format_in-format-requires : goal.format_in-format-requires
format_in-format-requires c = flag_asked explain_command (found_of c.args.found.now) c.requires (codes "json") refl

pub flag_in-requires : goal.flag_in-requires
flag_in-requires c = flag_asked explain_command (found_of c.args.found.now) c.requires (codes "flattened") refl

pub choice_in-requires : goal.choice_in-requires
choice_in-requires c = flag_asked explain_command (found_of c.args.found.now) c.requires (codes "override") refl

pub is_chosen-requires : goal.is_chosen-requires
is_chosen-requires c = flag_asked explain_command (found_of c.args.found.now) c.requires (codes "override") refl
