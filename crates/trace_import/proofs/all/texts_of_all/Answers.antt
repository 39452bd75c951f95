use Rattle.trace_import.proofs.AllProfiles.{read_failed}
use Rattle.trace_import.proofs.all.texts_of_all.Goals as goal

pub returns-in_err-read : goal.returns-in_err-read
returns-in_err-read c =
    read_failed c.args.account c.args.options c.args.text.now c.from_residual.result c.in_err-read.field-0.0 c.from_residual.ensures.1
    c.in_err-read.ensures.fault
