use Rattle.std.proofs.Common.{◌≡◌, ap, Err, inl, inr, rules}
use Rattle.trace_commands.specs.Tables.{IsMatchedOutput}
use Rattle.trace_report.specs.Output.{whole_answer}
use Rattle.trace_report.specs.Fault.{fault_of_image}
use Rattle.trace_commands.specs.laws.OneOutput.{told_fault, image_memory}
use Rattle.trace_commands.proofs.match_command.match_image.Goals as goal

pub returns-in_err-verified-clause-output : goal.returns-in_err-verified-clause-output
returns-in_err-verified-clause-output c =
    let told : c.from_residual.result ≡ Err (fault_of_image c.in_err-verified.field-0.0) = search rules in
    let why = told_fault c.args.image.now (IsMatchedOutput c.args.format c.args.ask c.args.name.now c.args.image.now)
    c.in_err-verified.field-0.0
    (λ output h. inr h) c.in_err-verified.ensures.err in
    rw told why

pub returns-in-Err-clause-memory : goal.returns-in-Err-clause-memory
returns-in-Err-clause-memory c told =
    c.images_are_whole.ensures c.args.image.now c.in_ok-verified.verified c.in_ok-verified.ensures.ok.0

pub returns-in_err-verified-clause-memory : goal.returns-in_err-verified-clause-memory
returns-in_err-verified-clause-memory c =
    let told : c.from_residual.result ≡ Err (fault_of_image c.in_err-verified.field-0.0) = search rules in
    rw told (image_memory c.args.image.now c.in_err-verified.field-0.0 c.in_err-verified.ensures.err)

pub returns-in-Ok-clause-output : goal.returns-in-Ok-clause-output
returns-in-Ok-clause-output c =
    let told = c.in-Ok.ensures in
    inl (
      c.in_ok-verified.verified,
      c.in_ok-verified.ensures.ok,
      told.0,
      told.1,
      ap whole_answer told.2,
    )
