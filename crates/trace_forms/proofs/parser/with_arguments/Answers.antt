use Rattle.std.proofs.Common.{◌∙◌, refl, sym}
use Rattle.clap.specs.Words.{app_of}
use Rattle.trace_forms.specs.Parser.{argument_form, argument_rule}
use Rattle.trace_forms.proofs.CommandSteps.{all_added, one_added}
use Rattle.trace_forms.proofs.parser.with_arguments.Goals as goal

pub loop-argument-init : goal.loop-argument-init
loop-argument-init c = refl

pub loop-argument-preserved : goal.loop-argument-preserved
loop-argument-preserved c =
    one_added argument_form argument_rule c.args.arguments.now c.loop-argument.argument-index _ (app_of c.loop-argument.command)
    (app_of c.in_ok-command.command) _ c.loop-argument-test.true c.place_argument.ensures.rule
    (c.in_ok-command.ensures.shape c.place_argument.ensures.global)
    ∙ c.loop-argument.invariant

pub returns : goal.returns
returns c =
    sym (all_added argument_form argument_rule c.args.arguments.now c.loop-argument.argument-index (app_of c.loop-argument.command)
    c.loop-argument-test.false)
    ∙ c.loop-argument.invariant
