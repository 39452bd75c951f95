use Rattle.std.proofs.Common.{◌≡◌, ◌∙◌, ap, map}
use Rattle.std.proofs.lemmas.Result.{IfOk-weaker}
use Rattle.clap.specs.Words.{App, app_of, new_app}
use Rattle.clap.specs.Simple.{app_of_fields}
use Rattle.trace_forms.specs.Parser.{argument_form, argument_rule, option_form, option_rule, with_rules}
use Rattle.trace_forms.proofs.parser.command_of.Goals as goal

pub returns : goal.returns
returns c =
    let form = c.args.form.now in
    let about : app_of c.about.result ≡ new_app form.name.now = ap app_of_fields c.about.ensures ∙ c.new.ensures.app in
    let bare : app_of c.after_help-bare.result ≡ new_app form.name.now = ap app_of_fields c.after_help-bare.ensures ∙ about in
    let optioned = c.in_ok-command.ensures ∙ ap (λ (a : App). with_rules a (map option_rule (map option_form form.options.now))) bare in
    IfOk-weaker c.with_arguments.result _ _
    (λ more h. h ∙ ap (λ (a : App). with_rules a (map argument_rule (map argument_form form.arguments.now))) optioned)
    c.with_arguments.ensures
