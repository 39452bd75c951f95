-- what is left to be added makes the command
use Rattle.std.proofs.Common.{◌≡◌, map}
use Rattle.clap.specs.Words.{app_of}
use Rattle.trace_forms.specs.Parser.{argument_form, argument_rule, with_rules}
use Rattle.trace_forms.proofs.CommandSteps.{with_rest}
use Rattle.trace_forms.proofs.parser.with_arguments.Given as goal

abbrev pub invariant-loop-argument : goal.invariant-loop-argument
invariant-loop-argument l = with_rest argument_form argument_rule (app_of l.command) l.arguments l.argument-index
    ≡ with_rules (app_of l.fn.bare) (map argument_rule (map argument_form l.arguments))
