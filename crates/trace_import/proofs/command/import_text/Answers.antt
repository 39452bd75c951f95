use Rattle.std.proofs.Common.{Err, refl}
use Rattle.import_profile.specs.Faults.{ImportFault}
use Rattle.import_profile.specs.Imports.{Imports}
use Rattle.trace_import.specs.Import.{IsImportOutput}
use Rattle.trace_import.proofs.Endings.{good}
use Rattle.trace_import.proofs.FailureEndings.{failed_so}
use Rattle.trace_import.proofs.command.import_text.Goals as goal

pub returns-in-Err : goal.returns-in-Err
returns-in-Err g c =
    failed_so (IsImportOutput c.args.account c.args.options c.args.text.now)
    (λ (f : ImportFault). Imports c.args.options c.args.text.now (Err f)) c.args.text.now _ _ _ c.in-Err.failure c.refuse_failed.result
    (good c.args.account c.args.options c.args.text.now) (λ f is. (Err f, is, refl)) c.in-Err.ensures c.refuse_failed.ensures
