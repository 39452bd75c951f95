use Rattle.std.proofs.Common.{Err}
use Rattle.std.proofs.lemmas.Result.{IfOk-weaker}
use Rattle.import_profile.specs.AllImports.{ImportsAll}
use Rattle.import_profile.specs.Told.{import_fault_value}
use Rattle.fault_notes.proofs.EachImport.{read_of}
use Rattle.fault_notes.proofs.all_imports.import_all_notes.Goals as goal

pub returns-in-Err-At : goal.returns-in-Err-At
returns-in-Err-At c =
    let told : ImportsAll c.args.options c.args.text.now (Err (import_fault_value c.in-Err-At.fault)) =
    rw (c.in-Err-At.is, c.in-Err-At.field-0-is) at c.import_all.ensures in
    let r = read_of told in
    IfOk-weaker c.fault_notes.result _ _ (λ _ e. (Err (import_fault_value c.in-Err-At.fault), told, (r.0, r.1, r.2, e)))
    (c.fault_notes.ensures r.0 r.1 r.2)
