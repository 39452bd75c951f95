use Rattle.std.proofs.Common.{◌∙◌, refl, sym}
use Rattle.clap.specs.Words.{app_of}
use Rattle.trace_forms.specs.Parser.{option_form, option_rule}
use Rattle.trace_forms.proofs.CommandSteps.{all_added, one_added}
use Rattle.trace_forms.proofs.parser.with_options.Goals as goal

pub loop-option-init : goal.loop-option-init
loop-option-init c = refl

pub loop-option-preserved : goal.loop-option-preserved
loop-option-preserved c =
    one_added option_form option_rule c.args.options.now c.loop-option.option-index _ (app_of c.loop-option.command)
    (app_of c.in_ok-command.command) _ c.loop-option-test.true c.option_argument.ensures.rule
    (c.in_ok-command.ensures.shape c.option_argument.ensures.global)
    ∙ c.loop-option.invariant

pub returns : goal.returns
returns c =
    sym (all_added option_form option_rule c.args.options.now c.loop-option.option-index (app_of c.loop-option.command)
    c.loop-option-test.false)
    ∙ c.loop-option.invariant
