-- what is left to be added makes the command
use Rattle.std.proofs.Common.{◌≡◌, map}
use Rattle.clap.specs.Words.{app_of}
use Rattle.trace_forms.specs.Parser.{option_form, option_rule, with_rules}
use Rattle.trace_forms.proofs.CommandSteps.{with_rest}
use Rattle.trace_forms.proofs.parser.with_options.Given as goal

abbrev pub invariant-loop-option : goal.invariant-loop-option
invariant-loop-option l = with_rest option_form option_rule (app_of l.command) l.options l.option-index
    ≡ with_rules (app_of l.fn.bare) (map option_rule (map option_form l.options))
