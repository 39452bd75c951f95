use Rattle.std.proofs.Common.{◌∙◌, refl, sym}
use Rattle.clap.specs.Words.{app_of}
use Rattle.trace_forms.proofs.CommandSteps.{command_more, commands_done}
use Rattle.trace_forms.proofs.parser.with_commands.Goals as goal

pub loop-form-init : goal.loop-form-init
loop-form-init c = refl

pub loop-form-preserved : goal.loop-form-preserved
loop-form-preserved c =
    command_more c.args.forms.now c.loop-form.form-index _ (app_of c.loop-form.more) (app_of c.in_ok-more.more) c.loop-form-test.true
    c.in_ok-more.ensures
    ∙ c.loop-form.invariant

pub returns : goal.returns
returns c = sym (commands_done c.args.forms.now c.loop-form.form-index (app_of c.loop-form.more) c.loop-form-test.false)
    ∙ c.loop-form.invariant
