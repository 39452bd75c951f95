use Rattle.std.proofs.Common.{Ok, Err, refl}
use Rattle.import_profile.specs.Told.{import_fault_value, import_value}
use Rattle.trace_audit.proofs.lookup.imported.Goals as goal

pub returns-in-Ok : goal.returns-in-Ok
returns-in-Ok c = (c.options_of-options.result, c.options_of-options.ensures, Ok (import_value c.in-Ok.imported), c.in-Ok.ensures, refl)

pub returns-in-Err-At : goal.returns-in-Err-At
returns-in-Err-At c = (
  c.options_of-options.result,
  c.options_of-options.ensures,
  Err (import_fault_value c.in-Err-At.fault),
  rw c.in-Err-At.field-0-is at c.in-Err-At.ensures,
  c.held_by_fault.ensures,
)
