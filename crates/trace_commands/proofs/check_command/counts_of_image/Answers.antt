use Rattle.std.proofs.Common.{◌≡◌, Err, inr, rules}
use Rattle.trace_commands.specs.Tables.{IsCheckOutput}
use Rattle.trace_report.specs.Fault.{fault_of_image}
use Rattle.trace_commands.specs.laws.OneOutput.{told_fault, image_memory}
use Rattle.trace_commands.proofs.check_command.counts_of_image.Goals as goal

pub returns-in_err-verified-clause-output : goal.returns-in_err-verified-clause-output
returns-in_err-verified-clause-output c =
    let told : c.from_residual.result ≡ Err (fault_of_image c.in_err-verified.field-0.0) = search rules in
    let why = told_fault c.args.image.now (IsCheckOutput c.args.image.now) c.in_err-verified.field-0.0 (λ output h. inr h)
    c.in_err-verified.ensures.err in
    rw told why

pub returns-in-Err-clause-memory : goal.returns-in-Err-clause-memory
returns-in-Err-clause-memory c told =
    c.images_are_whole.ensures c.args.image.now c.in_ok-verified.verified c.in_ok-verified.ensures.ok.0

pub returns-in_err-verified-clause-memory : goal.returns-in_err-verified-clause-memory
returns-in_err-verified-clause-memory c =
    let told : c.from_residual.result ≡ Err (fault_of_image c.in_err-verified.field-0.0) = search rules in
    rw told (image_memory c.args.image.now c.in_err-verified.field-0.0 c.in_err-verified.ensures.err)
