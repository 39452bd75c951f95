use Rattle.std.proofs.Common.{◌≡◌, Err, inr, rules}
use Rattle.trace_commands.specs.Tables.{IsCheckOutput}
use Rattle.trace_commands.proofs.ImageRead.{image_unread}
use Rattle.trace_commands.specs.laws.OneOutput.{check_arguments}
use Rattle.trace_commands.proofs.check_command.counts_read.Goals as goal

pub returns-in_err-image-clause-output : goal.returns-in_err-image-clause-output
returns-in_err-image-clause-output g c =
    let told : c.from_residual.result ≡ Err c.in_err-image.field-0.0 = search rules in
    let why = image_unread (g.R.Read.remaining c.args.input.now) IsCheckOutput c.in_err-image.field-0.0 check_arguments
    (λ text output refused. inr refused) c.in_err-image.ensures.image in
    (why.0, why.1, rw told why.2)
