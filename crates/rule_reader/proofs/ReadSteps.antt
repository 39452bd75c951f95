-- Steps that gave a value, tests that went one way, and values that are the same.
use Rattle.std.proofs.Common.{◌≡◌, Bool, true, false, cond, Option, Some, None, Result, Ok, Err, refl, ◌⊎◌, inl, inr}
use Rattle.rule_reader.specs.declared.reader.local_fault.LocalFault.{LocalFault}
use Rattle.rule_reader.specs.ReadSteps.{◌>>=◌}

-- where two steps gave a value, the first one did
pub bind_ok : {A B : Type 0} (r : Result A LocalFault) (f : A → Result B LocalFault) (y : B) → (r >>= f) ≡ Ok y →
    (x : A) × (r ≡ Ok x) × (f x ≡ Ok y)
bind_ok (Ok x) f y e = (x, refl, e)
bind_ok (Err d) f y e = absurd cc

-- which way a test went
pub chosen : {A : Type 0} (b : Bool) (x y z : A) → cond b x y ≡ z → ((b ≡ true) × (x ≡ z)) ⊎ ((b ≡ false) × (y ≡ z))
chosen true x y z e = inl (refl, e)
chosen false x y z e = inr (refl, e)

abbrev done : {A : Type 0} → A → Result A LocalFault
done x = Ok x

pub ok_is : {A : Type 0} (x y : A) → done x ≡ done y → x ≡ y
ok_is x y e = cc

pub not_ok : {A : Type 0} (s : LocalFault) (y : A) → Err s ≡ done y → ⊥
not_ok s y e = cc

abbrev found : {A : Type 0} → A → Option A
found x = Some x

pub some_is : {A : Type 0} (x y : A) → found x ≡ found y → x ≡ y
some_is x y e = cc

pub none_some : {A : Type 0} (y : A) → None ≡ found y → ⊥
none_some y e = cc
