use Rattle.std.proofs.Common.{◌≡◌, Err, rules}
use Rattle.trace_report.specs.laws.Endings.{text_of}
use Rattle.trace_commands.proofs.Arguments.{asked_in_vain, quietly_in_vain, quietly_unread, unread}
use Rattle.trace_report.specs.Fault.{IsFaultOf}
use Rattle.trace_report.specs.declared.format.Format.{Format}
use Rattle.trace_commands.specs.Judge.{judge_output}
use Rattle.trace_commands.specs.Quiet.{quiet_judge_output}
use Rattle.trace_commands.proofs.judge_command.verdict_on.Goals as goal

pub returns-in_err-ask-clause-output : goal.returns-in_err-ask-clause-output
returns-in_err-ask-clause-output g c =
    let text = text_of (g.R.Read.remaining c.args.input.now) in
    let told : c.from_residual.result ≡ Err c.in_err-ask.field-0.0 = search rules in
    let f = c.in_err-ask.field-0.0 in
    let why : (format : Format) → IsFaultOf (judge_output format c.args.perms.now c.args.name.now text.0) f = λ format.
    asked_in_vain format c.args.perms.now c.args.name.now text.0 f c.in_err-ask.ensures.0 c.in_err-ask.ensures.1 in
    let quietly : IsFaultOf (quiet_judge_output c.args.perms.now c.args.name.now text.0) f =
    quietly_in_vain c.args.perms.now c.args.name.now text.0 f c.in_err-ask.ensures.0 c.in_err-ask.ensures.1 in
    (text.0, text.1, rw told why, rw told quietly)

pub returns-in_err-text-clause-output : goal.returns-in_err-text-clause-output
returns-in_err-text-clause-output g c =
    let text = text_of (g.R.Read.remaining c.args.input.now) in
    let told : c.from_residual-in_err-text.result ≡ Err c.in_err-text.field-0.0 = search rules in
    let f = c.in_err-text.field-0.0 in
    let why : (format : Format) → IsFaultOf (judge_output format c.args.perms.now c.args.name.now text.0) f = λ format.
    unread format c.args.perms.now c.args.name.now text.0 c.in_ok-ask.ask f c.in_ok-ask.ensures c.in_err-text.ensures in
    let quietly : IsFaultOf (quiet_judge_output c.args.perms.now c.args.name.now text.0) f =
    quietly_unread c.args.perms.now c.args.name.now text.0 c.in_ok-ask.ask f c.in_ok-ask.ensures c.in_err-text.ensures in
    (text.0, text.1, rw told why, rw told quietly)
