use Rattle.std.proofs.Common.{◌≡◌, Err, rules}
use Rattle.trace_report.specs.laws.Endings.{text_of}
use Rattle.trace_commands.specs.laws.OneOutput.{compile_arguments, unread_one}
use Rattle.trace_commands.proofs.compile_command.image_read.Goals as goal

pub returns-in_err-text : goal.returns-in_err-text
returns-in_err-text g c =
    let text = text_of (g.R.Read.remaining c.args.input.now) in
    let told : c.from_residual.result ≡ Err c.in_err-text.field-0.0 = search rules in
    let why = unread_one _ c.in_err-text.field-0.0 (compile_arguments c.args.depth text.0) c.in_err-text.ensures in
    (text.0, text.1, rw told why)
