use Rattle.std.proofs.Common.{Err, refl}
use Rattle.import_profile.specs.AllImports.{ImportsAll}
use Rattle.import_profile.specs.Faults.{ImportFault}
use Rattle.trace_import.specs.ImportAll.{IsAllOutput}
use Rattle.trace_import.proofs.Endings.{all_good}
use Rattle.trace_import.proofs.FailureEndings.{failed_so, tells_fault}
use Rattle.trace_import.proofs.all.all_of_text.Goals as goal

pub returns-in-Err : goal.returns-in-Err
returns-in-Err g c =
    failed_so (IsAllOutput c.args.account c.args.options c.args.text.now)
    (λ (f : ImportFault). ImportsAll c.args.options c.args.text.now (Err f)) c.args.text.now _ _ _ c.in-Err.failure
    c.refuse_failed.result (all_good c.args.account c.args.options c.args.text.now) (λ f is. (Err f, is, refl))
    (tells_fault c.args.account c.args.options c.args.text.now c.in-Err.failure c.in-Err.ensures) c.refuse_failed.ensures
