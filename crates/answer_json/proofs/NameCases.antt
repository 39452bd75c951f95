-- A name as a JSON value, by whether its bytes are UTF-8.
use Rattle.std.proofs.Common.{◌≡◌, ℕ, Bool, true, false, List, map, refl}
use Rattle.std.specs.Prelude.{if◌then◌else◌}
use Rattle.std.specs.Str.{IsUtf8, is_utf8}
use Rattle.std.proofs.lemmas.Str.{IsUtf8-from_is_utf8, is_utf8-from_IsUtf8}
use Rattle.serde_json.specs.Data.{array, string}
use Rattle.serde_json.specs.View.{items_of}
use Rattle.answer_json.specs.Values.{name_value, number_value}

pub name_of_text : (bytes text : List ℕ) → IsUtf8 bytes → text ≡ bytes → string text ≡ name_value bytes
name_of_text bytes text is e = rw (e, is_utf8-from_IsUtf8 bytes is) refl

pub name_of_bytes : (bytes : List ℕ) → ¬ (IsUtf8 bytes) → array (items_of (map number_value bytes)) ≡ name_value bytes
name_of_bytes bytes isnt = at (is_utf8 bytes) refl
  where
    at : (b : Bool) → is_utf8 bytes ≡ b →
        array (items_of (map number_value bytes)) ≡ (if b then string bytes else array (items_of (map number_value bytes)))
    at true e = absurd (isnt (IsUtf8-from_is_utf8 bytes e))
    at false e = refl
