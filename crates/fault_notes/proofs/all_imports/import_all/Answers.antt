use Rattle.fault_notes.proofs.EachImport.{read_failed}
use Rattle.fault_notes.proofs.all_imports.import_all.Goals as goal

pub returns-in_err-read : goal.returns-in_err-read
returns-in_err-read c =
    read_failed c.args.options c.args.text.now c.from_residual.result c.in_err-read.field-0.0 c.from_residual.ensures.1
    c.in_err-read.ensures.fault
