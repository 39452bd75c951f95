-- Look-ups in the map of the profiles that a test has published.
use Rattle.std.proofs.Common.{◌≡◌, Bool, true, false, Option, refl}
use Rattle.std.specs.Prelude.{if◌then◌else◌}
use Rattle.std.specs.Option.{option_map}

pub mapped_if : {X Y : Type 0} (f : X → Y) (b : Bool) (x y : Option X) → option_map f (if b then x else y)
    ≡ (if b then option_map f x else option_map f y)
mapped_if f true x y = refl
mapped_if f false x y = refl
