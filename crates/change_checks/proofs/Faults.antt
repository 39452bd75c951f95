-- Why a change is refused, or the tree is torn.
use Rattle.std.proofs.Common.{◌≡◌, sym, subst}
use Rattle.std.specs.Prelude.{Result, Ok, Err, IfErr}
use Rattle.std.specs.Result.{IsErrAnd}
use Rattle.names.specs.declared.errors.Errno.{Errno}
use Rattle.path_lookup.specs.declared.fault.WalkFault.{WalkFault}
use Rattle.path_lookup.specs.declared.fault.WalkFault.TheVariants.{Refused, Torn}
use Rattle.path_lookup.specs.World.{World}
use Rattle.path_lookup.specs.WalkFaults.{IsFault}

-- a fault of one question is a fault of every question with the same answer
fault_along : {X Y : Type 0} (lacks : Type 0) (sees : World → Type 0) (f : World → Result X Errno) (g : World → Result Y Errno)
    (fault : WalkFault)
    → ((w : World) (e : Errno) → sees w → f w ≡ Err e → g w ≡ Err e) → IsFault lacks sees f fault → IsFault lacks sees g fault
fault_along lacks sees f g (Refused errno) along h = λ w seen. along w errno seen (h w seen)
fault_along lacks sees f g Torn along h = h

-- and `?` passes it on
pub fault_passed : {T X Y : Type 0} (r : Result T WalkFault) (fault : WalkFault) (lacks : Type 0) (sees : World → Type 0)
    (f : World → Result X Errno) (g : World → Result Y Errno)
    → IsErrAnd r (λ y. y ≡ fault) → ((w : World) (e : Errno) → sees w → f w ≡ Err e → g w ≡ Err e) → IsFault lacks sees f fault →
    IfErr r (IsFault lacks sees g)
fault_passed (Ok x) fault lacks sees f g is along h = absurd is
fault_passed (Err y) fault lacks sees f g is along h = subst (IsFault lacks sees g) (sym is) (fault_along lacks sees f g fault along h)
