use Rattle.std.proofs.Common.{codes, refl}
use Rattle.clap.specs.Words.{found_of}
use Rattle.trace_arguments.specs.CommandLine.{import_command}
use Rattle.trace_arguments.proofs.Asked.{flag_asked}
use Rattle.trace_arguments.proofs.import.import_in.Goals as goal

pub flag_in-all-requires : goal.flag_in-all-requires
flag_in-all-requires c = flag_asked import_command (found_of c.args.found.now) c.requires (codes "all") refl

pub choice_in-requires : goal.choice_in-requires
choice_in-requires c = flag_asked import_command (found_of c.args.found.now) c.requires (codes "override") refl

pub flag_in-requires : goal.flag_in-requires
flag_in-requires c = flag_asked import_command (found_of c.args.found.now) c.requires (codes "strict") refl
