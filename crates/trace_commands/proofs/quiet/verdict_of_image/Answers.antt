use Rattle.std.proofs.Common.{◌≡◌, Err, refl, inl, inr, rules}
use Rattle.trace_commands.specs.Quiet.{IsQuietlyMatched}
use Rattle.trace_report.specs.Fault.{fault_of_image}
use Rattle.trace_commands.specs.laws.OneOutput.{told_fault, image_memory}
use Rattle.trace_commands.proofs.quiet.verdict_of_image.Goals as goal

pub returns-in_err-verified-clause-output : goal.returns-in_err-verified-clause-output
returns-in_err-verified-clause-output c =
    let told : c.from_residual.result ≡ Err (fault_of_image c.in_err-verified.field-0.0) = search rules in
    let why = told_fault c.args.image.now (IsQuietlyMatched c.args.ask c.args.name.now c.args.image.now) c.in_err-verified.field-0.0
    (λ output h. inr h) c.in_err-verified.ensures.err in
    rw told why

pub returns-in_err-verified-clause-memory : goal.returns-in_err-verified-clause-memory
returns-in_err-verified-clause-memory c =
    let told : c.from_residual.result ≡ Err (fault_of_image c.in_err-verified.field-0.0) = search rules in
    rw told (image_memory c.args.image.now c.in_err-verified.field-0.0 c.in_err-verified.ensures.err)
