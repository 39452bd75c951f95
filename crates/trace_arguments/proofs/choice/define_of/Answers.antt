use Rattle.std.proofs.Common.{◌≡◌, ◌∙◌, ℕ, Bool, true, false, List, Some, None, ap, refl, sym, arith}
use Rattle.std.specs.Prelude.{◌&&◌, if◌then◌else◌}
use Rattle.std.proofs.lemmas.Str.Pattern.{split_parts}
use Rattle.clap.specs.Lexer.{name_and_value}
use Rattle.clap.proofs.LexerLemmas.{name_and_value-at, name_and_value-without}
use Rattle.trace_arguments.specs.Choices.{define_cut, is_value, is_variable}
use Rattle.trace_arguments.proofs.choice.define_of.Goals as goal

-- whether the name before `=` is a variable's and the text after it is a value
cut_at : (name value : List ℕ) (both : Bool) → is_variable name && is_value value ≡ both → define_cut (name, Some value)
    ≡ (if both then Some (name, value) else None)
cut_at name value true is = rw is refl
cut_at name value false is = rw is refl

pub returns-in_err-variable : goal.returns-in_err-variable
returns-in_err-variable c =
    let text = c.args.text.now in
    let lacks = split_parts 61 text None c.in_err-variable.ensures.cases (omega arith) in
    rw (c.from_residual.ensures) (sym (ap define_cut (name_and_value-without text lacks)))

pub returns-then-may_be_defined : goal.returns-then-may_be_defined
returns-then-may_be_defined c =
    let text = c.args.text.now in
    let name = c.in_ok-variable.variable.now in
    let value = c.in_ok-variable.value.now in
    let parts = split_parts 61 text (Some (c.in_ok-variable.variable, c.in_ok-variable.value)) c.in_ok-variable.ensures.cases
    (omega arith) in
    let cut : name_and_value text ≡ (name, Some value) = ap name_and_value parts.0 ∙ name_and_value-at name value parts.1 in
    sym (ap define_cut cut ∙ cut_at name value true (sym c.if-may_be_defined.ensures))

pub returns-else-may_be_defined : goal.returns-else-may_be_defined
returns-else-may_be_defined c =
    let text = c.args.text.now in
    let name = c.in_ok-variable.variable.now in
    let value = c.in_ok-variable.value.now in
    let parts = split_parts 61 text (Some (c.in_ok-variable.variable, c.in_ok-variable.value)) c.in_ok-variable.ensures.cases
    (omega arith) in
    let cut : name_and_value text ≡ (name, Some value) = ap name_and_value parts.0 ∙ name_and_value-at name value parts.1 in
    sym (ap define_cut cut ∙ cut_at name value false (sym c.if-may_be_defined.ensures))
