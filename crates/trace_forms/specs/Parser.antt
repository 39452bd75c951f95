-- Commands as the parser of `clap` knows them.
use Rattle.std.specs.Prelude.{ℕ, List, ◌∷◌, [], map, fold, Some, None, pos, if◌then◌else◌}
use Rattle.clap.specs.Words.{App, Rule, new_app, new_rule, with_rule, with_subcommand}
use Rattle.clap.specs.declared.builder.action.ArgAction.TheVariants.{Append, SetTrue}
use Rattle.clap.specs.declared.builder.value_parser.ValueParser.TheVariants.{Signed}
use Rattle.trace_forms.specs.Forms.{ArgumentForm, NumberOption, OptionForm, Wants, many_texts, no_text, one_number, one_text}
use Rattle.trace_forms.specs.declared.forms.ArgumentForm as argument
use Rattle.trace_forms.specs.declared.forms.CommandForm as command
use Rattle.trace_forms.specs.declared.forms.NumberOption as number
use Rattle.trace_forms.specs.declared.forms.OptionForm as option
use Rattle.trace_forms.specs.declared.forms.Wants as wants
use Rattle.trace_forms.specs.declared.forms.Wants.TheVariants as wanted

-- an option, whose value is a number between its bounds
abbrev pub number_rule : List ℕ → NumberOption → Rule
number_rule name option = record (new_rule name) {
  long = Some name;
  value_names = 1;
  defaults = option.default ∷ [];
  parser = Some (Signed (pos option.least) (pos option.most));
}

-- an option with a text
abbrev pub text_rule : List ℕ → Rule
text_rule name = record (new_rule name) { long = Some name; value_names = 1 }

-- an option with a text each time that it is given
abbrev pub texts_rule : List ℕ → Rule
texts_rule name = record (text_rule name) { action = Some Append }

-- an option that is given or not
abbrev pub flag_rule : List ℕ → Rule
flag_rule name = record (new_rule name) { long = Some name; action = Some SetTrue }

abbrev pub rule_by : List ℕ → Wants → Rule
rule_by name (one_number option) = number_rule name option
rule_by name one_text = text_rule name
rule_by name many_texts = texts_rule name
rule_by name no_text = flag_rule name

abbrev pub option_rule : OptionForm → Rule
option_rule option = rule_by option.name option.wants

-- an argument, which may be given once or any number of times
abbrev pub argument_rule : ArgumentForm → Rule
argument_rule argument = record (new_rule argument.name) {
  required = argument.is_required;
  action = if argument.is_repeated then Some Append else None;
}

abbrev pub with_rules : App → List Rule → App
with_rules app rules = fold with_rule app rules

abbrev pub command_app : List ℕ → List OptionForm → List ArgumentForm → App
command_app name options arguments = with_rules (with_rules (new_app name) (map option_rule options)) (map argument_rule arguments)

-- ---- the forms of the code

abbrev pub number_form : number.NumberOption → NumberOption
number_form option = record { name = option.name.now; default = option.default.now; least = option.least; most = option.most }

abbrev pub wants_form : wants.Wants → Wants
wants_form (wanted.OneNumber option) = one_number (number_form option)
wants_form (wanted.OneText value) = one_text
wants_form (wanted.ManyTexts value) = many_texts
wants_form wanted.NoText = no_text

abbrev pub option_form : option.OptionForm → OptionForm
option_form option = record { name = option.name.now; wants = wants_form option.wants }

abbrev pub argument_form : argument.ArgumentForm → ArgumentForm
argument_form argument =
    record { name = argument.name.now; is_required = argument.is_required; is_repeated = argument.is_repeated }

abbrev pub app_of_form : command.CommandForm → App
app_of_form form = command_app form.name.now (map option_form form.options.now) (map argument_form form.arguments.now)

-- a program with a command by its form
abbrev pub with_form : App → command.CommandForm → App
with_form program form = with_subcommand program (app_of_form form).top
