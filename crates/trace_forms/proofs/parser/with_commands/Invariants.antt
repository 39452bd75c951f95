-- the commands that are left to be added make the program
use Rattle.std.proofs.Common.{◌≡◌}
use Rattle.std.specs.Prelude.{fold}
use Rattle.clap.specs.Words.{app_of}
use Rattle.trace_forms.specs.Parser.{with_form}
use Rattle.trace_forms.proofs.CommandSteps.{with_others}
use Rattle.trace_forms.proofs.parser.with_commands.Given as goal

abbrev pub invariant-loop-form : goal.invariant-loop-form
invariant-loop-form l = with_others (app_of l.more) l.forms l.form-index ≡ fold with_form (app_of l.fn.program) l.forms
