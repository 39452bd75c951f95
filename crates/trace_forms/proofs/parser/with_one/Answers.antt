use Rattle.std.proofs.lemmas.Result.{IfOk-weaker}
use Rattle.clap.specs.Words.{app_of}
use Rattle.std.proofs.Common.{refl}
use Rattle.trace_forms.proofs.CommandSteps.{is_local}
use Rattle.trace_forms.proofs.parser.with_one.Goals as goal

pub returns : goal.returns
returns c = IfOk-weaker c.subcommand.result _ _
    (λ more h. h.shape (is_local c.args.command (app_of c.args.command) refl c.requires)) c.subcommand.ensures
