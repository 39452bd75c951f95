use Rattle.std.proofs.Common.{codes, refl}
use Rattle.clap.specs.Words.{found_of}
use Rattle.clap.proofs.WalkLemmas.{both}
use Rattle.trace_arguments.specs.CommandLine.{diff_command}
use Rattle.trace_arguments.proofs.Asked.{flag_asked, flag_said, format_said, text_asked, text_is, text_said}
use Rattle.trace_arguments.proofs.lines.diff_in.Goals as goal

pub text_in-requires : goal.text_in-requires
text_in-requires c = text_asked diff_command (found_of c.args.found.now) c.requires (codes "OLD") refl (both _ _ c.requires.1.required).0

pub each_rule_in-requires : goal.each_rule_in-requires
each_rule_in-requires c = flag_asked diff_command (found_of c.args.found.now) c.requires (codes "each-rule") refl

pub format_in-requires : goal.format_in-requires
format_in-requires c = flag_asked diff_command (found_of c.args.found.now) c.requires (codes "json") refl

pub returns : goal.returns
returns c = λ given is.
    let found = found_of c.args.found.now in
    rw (
      text_said diff_command found given is (codes "OLD") c.text_in.result.now refl c.text_in.ensures,
      flag_said diff_command found given is (codes "each-rule") c.each_rule_in.result refl c.each_rule_in.ensures,
      format_said diff_command found given is c.format_in.result refl c.format_in.ensures,
      ← text_is diff_command found given is (codes "NEW") refl,
      ← text_is diff_command found given is (codes "below") refl,
      c.get_str.ensures,
      c.get_str-2.ensures,
    ) refl
