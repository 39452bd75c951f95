-- Tables in bounds have no fault.
use Rattle.std.proofs.Common.{arith}
use Rattle.tables.specs.Bounds.{InBounds, HasFault, IsFirstFault}
use Rattle.tables.specs.Tables.{Table}
use Rattle.tables.specs.declared.fault.ImageFault.{ImageFault}
use Rattle.tables.specs.declared.fault.ImageFault.TheVariants as fault

no_fault : (t : Table) (f : ImageFault) → InBounds t → HasFault t f → ⊥
no_fault t fault.Counts bounds has = has bounds.limits
no_fault t fault.Length bounds has = has bounds.shaped
no_fault t (fault.Default s) bounds (n, at, least) = omega (arith, bounds.defaults s n at)
no_fault t (fault.Base s) bounds (n, at, least) = omega (arith, bounds.bases s n at)
no_fault t (fault.Accept s) bounds (n, at, least) = omega (arith, bounds.accepts s n at)
no_fault t (fault.Next k) bounds (n, at, least) = omega (arith, bounds.nexts k n at)
no_fault t (fault.Depth s) bounds (d, at, deep) = bounds.depths s d at deep
no_fault t fault.Short bounds has = has
no_fault t fault.Magic bounds has = has
no_fault t fault.Version bounds has = has
no_fault t fault.Reserved bounds has = has
no_fault t fault.NoMemory bounds has = has

pub no_first_fault : (t : Table) (f : ImageFault) → InBounds t → IsFirstFault t f → ⊥
no_first_fault t f bounds first = no_fault t f bounds first.has
