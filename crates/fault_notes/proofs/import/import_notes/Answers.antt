use Rattle.std.proofs.Common.{Err}
use Rattle.std.proofs.lemmas.Result.{IfOk-weaker}
use Rattle.import_profile.specs.Imports.{Imports}
use Rattle.import_profile.specs.Told.{import_fault_value}
use Rattle.fault_notes.proofs.import.import_notes.Goals as goal

pub returns : goal.returns
returns c =
    let told : Imports c.args.options c.args.text.now (Err (import_fault_value c.in-Err-At.fault)) =
    rw c.in-Err-At.field-0-is at c.in-Err-At.ensures in
    IfOk-weaker c.fault_notes.result _ _ (λ _ e. (Err (import_fault_value c.in-Err-At.fault), told, e))
    (c.fault_notes.ensures told.items told.end told.read)
