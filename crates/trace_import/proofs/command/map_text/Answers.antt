use Rattle.std.proofs.Common.{Err, inl, refl}
use Rattle.import_profile.specs.Faults.{ImportFault}
use Rattle.import_profile.specs.Imports.{Imports}
use Rattle.import_profile.specs.Told.{import_value}
use Rattle.trace_import.specs.Import.{IsImportOutput}
use Rattle.trace_import.proofs.Endings.{gets_map, good, mapless}
use Rattle.trace_import.proofs.FailureEndings.{failed_so, failure_not_done}
use Rattle.trace_import.proofs.command.map_text.Goals as goal

pub returns-in-Ok-clause-map : goal.returns-in-Ok-clause-map
returns-in-Ok-clause-map g c =
    gets_map c.args.options c.args.text.now (import_value c.in-Ok.imported) _ _ _ c.tell_map.result c.in-Ok.ensures c.tell_map.ensures.map

pub returns-in-Err-clause-ends : goal.returns-in-Err-clause-ends
returns-in-Err-clause-ends g c =
    failed_so (IsImportOutput c.args.account c.args.options c.args.text.now)
    (λ (f : ImportFault). Imports c.args.options c.args.text.now (Err f)) c.args.text.now _ _ _ c.in-Err.failure c.refuse_failed.result
    (good c.args.account c.args.options c.args.text.now) (λ f is. (Err f, is, refl)) c.in-Err.ensures c.refuse_failed.ensures

pub returns-in-Err-clause-map : goal.returns-in-Err-clause-map
returns-in-Err-clause-map g c =
    inl (mapless _ _ _ _ c.refuse_failed.result
    (failure_not_done c.args.text.now _ _ c.in-Err.failure c.refuse_failed.result c.refuse_failed.ensures))
