-- The objects of a test have no floats.
use Rattle.std.proofs.Common.{◌≡◌, ℕ, Bool, false, List, refl}
use Rattle.std.specs.Prelude.{◌||◌, Option, Some, None}
use Rattle.serde_json.specs.Written.{has_float}
use Rattle.answer_json.specs.Values.{name_value}
use Rattle.answer_json.specs.laws.NoFloats.{no_float_in_name}
use Rattle.trace_test.specs.TestOutput.{answer_object, count_object, name_or_null}

pub no_float_in_option : (name : Option (List ℕ)) → has_float (name_or_null name) ≡ false
no_float_in_option None = refl
no_float_in_option (Some name) = no_float_in_name name

-- the floats of two members, before one that has none
pub neither : (a b : Bool) → a ≡ false → b ≡ false → a || (b || false) ≡ false
neither a b e1 e2 = rw (e1, e2) refl

pub no_float_in_count : (held total : ℕ) → has_float (count_object held total) ≡ false
no_float_in_count held total = refl

pub no_float_in_answer : (number : ℕ) (text : List ℕ) → has_float (answer_object number text) ≡ false
no_float_in_answer number text = one (has_float (name_value text)) (no_float_in_name text)
  where
    one : (a : Bool) → a ≡ false → a || (false || false) ≡ false
    one a e = rw e refl
