-- Faults of the arguments, of what is read, and of the profile.
use Rattle.std.proofs.Common.{◌≡◌, ℕ, List, Ok, Err, rules, subst}
use Rattle.rule_reader.specs.ReadText.{outcome_of}
use Rattle.trace_names.specs.Names.{IsNamesOutputOf}
use Rattle.trace_names.specs.inner.Answers.{IsCompiledText}
use Rattle.trace_names.proofs.Faults.{asked_in_vain, read_rightly, uncompiled, unread}
use Rattle.trace_report.specs.Fault.{IsFaultOfOne}
use Rattle.trace_report.specs.laws.Endings.{text_of}
use Rattle.trace_names.proofs.names_command.answer.Goals as goal

pub returns-in_err-ask-clause-output : goal.returns-in_err-ask-clause-output
returns-in_err-ask-clause-output g c =
    let text = text_of (g.P.Read.remaining c.args.profile.now) in
    let list = text_of (g.R.Read.remaining c.args.list.now) in
    let f = c.in_err-ask.field-0.0 in
    let told : c.from_residual.result ≡ Err f = search rules in
    let why = asked_in_vain c.args.choice list.0 c.args.perms.now text.0 f c.in_err-ask.ensures.0 c.in_err-ask.ensures.1 in
    (text.0, list.0, text.1, list.1, rw told why)

pub returns-in_err-text-clause-output : goal.returns-in_err-text-clause-output
returns-in_err-text-clause-output g c =
    let text = text_of (g.P.Read.remaining c.args.profile.now) in
    let list = text_of (g.R.Read.remaining c.args.list.now) in
    let f = c.in_err-text.field-0.0 in
    let told : c.from_residual-in_err-text.result ≡ Err f = search rules in
    let why = unread c.args.choice list.0 c.args.perms.now text.0 c.in_ok-ask.ask f c.in_ok-ask.ensures c.in_err-text.ensures in
    (text.0, list.0, text.1, list.1, rw told why)

pub returns-in_err-compiled-clause-output : goal.returns-in_err-compiled-clause-output
returns-in_err-compiled-clause-output g c =
    let text = c.in_ok-text.text.items in
    let list = text_of (g.R.Read.remaining c.args.list.now) in
    let f = c.in_err-compiled.field-0.0 in
    let told : c.from_residual-in_err-compiled.result ≡ Err f = search rules in
    let of_text = subst (λ (bytes : List ℕ). IsFaultOfOne (IsNamesOutputOf c.args.choice c.in_ok-ask.ask list.0 (outcome_of bytes)) f)
    c.deref.ensures.value (c.in_err-compiled.ensures c.args.choice c.in_ok-ask.ask list.0) in
    let why = uncompiled c.args.choice list.0 c.args.perms.now text c.in_ok-ask.ask f c.in_ok-ask.ensures of_text in
    (text, list.0, c.in_ok-text.ensures, list.1, rw told why)

pub returns-in_err-names-clause-output : goal.returns-in_err-names-clause-output
returns-in_err-names-clause-output g c =
    let text = c.in_ok-text.text.items in
    let list = text_of (g.R.Read.remaining c.args.list.now) in
    let f = c.in_err-names.field-0.0 in
    let told : c.from_residual-in_err-names.result ≡ Err f = search rules in
    let why = unread c.args.choice list.0 c.args.perms.now text c.in_ok-ask.ask f c.in_ok-ask.ensures c.in_err-names.ensures in
    (text, list.0, c.in_ok-text.ensures, list.1, rw told why)

pub returns-in_err-names-clause-refused : goal.returns-in_err-names-clause-refused
returns-in_err-names-clause-refused g c =
    let compiled = c.in_ok-compiled.compiled in
    let made = subst (λ (bytes : List ℕ). IsCompiledText bytes (Ok compiled)) c.deref.ensures.value c.in_ok-compiled.ensures in
    read_rightly c.in_ok-text.text.items compiled made _ _ _ c.in_ok-text.ensures

pub returns-in-Ok-clause-refused : goal.returns-in-Ok-clause-refused
returns-in-Ok-clause-refused g c =
    let compiled = c.in_ok-compiled.compiled in
    let made = subst (λ (bytes : List ℕ). IsCompiledText bytes (Ok compiled)) c.deref.ensures.value c.in_ok-compiled.ensures in
    read_rightly c.in_ok-text.text.items compiled made _ _ _ c.in_ok-text.ensures

pub returns-clause-refused : goal.returns-clause-refused
returns-clause-refused g c =
    let compiled = c.in_ok-compiled.compiled in
    let made = subst (λ (bytes : List ℕ). IsCompiledText bytes (Ok compiled)) c.deref.ensures.value c.in_ok-compiled.ensures in
    read_rightly c.in_ok-text.text.items compiled made _ _ _ c.in_ok-text.ensures
