-- A field that begins here.
use Rattle.std.proofs.Common.{◌≡◌, ◌<◌, ℕ, Bool, true, List, [], ◌∷◌, Option, Some, length, take, drop, arith, refl}
use Rattle.std.specs.Prelude.{bytes_eq}
use Rattle.audit_log.specs.Fields.{after_key}

pub found_here : (key bytes value : List ℕ) (front quoted : Bool) → 0 < length bytes → front ≡ true
    → bytes_eq (take (length key) bytes) key ≡ true → value ≡ drop (length key) bytes
    → Some value ≡ after_key key front quoted bytes
found_here key [] value front quoted some at e v = absurd (omega arith)
found_here key (b ∷ bytes) value front quoted some at e v = rw (at, e, v) refl
