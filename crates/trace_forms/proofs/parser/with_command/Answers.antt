use Rattle.std.proofs.Common.{◌∙◌, ap}
use Rattle.std.proofs.lemmas.Result.{IfOk-weaker}
use Rattle.clap.specs.Words.{App, app_of, with_subcommand}
use Rattle.trace_forms.proofs.CommandSteps.{form_is_plain}
use Rattle.trace_forms.proofs.parser.with_command.Goals as goal

pub with_one-requires : goal.with_one-requires
with_one-requires c = ap (λ (a : App). a.top.is_plain) c.in_ok-command.ensures ∙ form_is_plain c.args.form.now

pub returns : goal.returns
returns c = IfOk-weaker c.with_one.result _ _
    (λ more h. h ∙ ap (λ (a : App). with_subcommand (app_of c.args.program) a.top) c.in_ok-command.ensures) c.with_one.ensures
