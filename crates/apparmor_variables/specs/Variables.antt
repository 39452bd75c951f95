-- Declared variables, and the texts that each stands for (apparmor.d(5), "Variables").
use Rattle.std.specs.Prelude.{◌≡◌, ℕ, zero, suc, ◌&&◌, if◌then◌else◌, List, [], ◌∷◌, ◌++◌, length, map, sum_by, nat_le, bytes_eq, find}
use Rattle.std.specs.Prelude.{Option, Some, None, option_and_then}
use Rattle.std.specs.List.{flat_map}
use Rattle.std.specs.Option.{option_map}
use Rattle.apparmor_pieces.specs.Pieces.{Text, Piece, byte, escaped, use_of, written, pieces, used_names}

-- A declared variable: its name and its values, those of `=` and `+=` together.
pub record Variable : Type 0 where
  pub name : Text
  pub values : List Text

-- the values of the variable of that name, if one is declared. Names are all different; else the first would count
abbrev pub values_of : List Variable → Text → Option (List Text)
values_of variables name = option_map (λ v. v.values) (find (λ v. bytes_eq v.name name) variables)

-- the maximum number of texts in a list (our choice; AppArmor has no bound)
abbrev pub most_texts : ℕ
most_texts = 1024

-- and the maximum number of bytes in all (our choice), also of a path's text
abbrev pub most_bytes : ℕ
most_bytes = 16384

abbrev pub byte_count : List Text → ℕ
byte_count texts = sum_by length texts

-- the texts, if they aren't too many or too long
abbrev pub fitting : List Text → Option (List Text)
fitting texts = if nat_le (length texts) most_texts && nat_le (byte_count texts) most_bytes then Some texts else None

-- each of the firsts followed by each of the seconds; the firsts vary slowest
abbrev pub each_with : List Text → List Text → List Text
each_with firsts seconds = flat_map (λ first. map (λ second. first ++ second) seconds) firsts

-- the lists of variables, where known
abbrev pub Known : Type 0
Known = Text → Option (List Text)

-- a piece stands for itself, but a use stands for each text of its variable
abbrev pub piece_texts : Known → Piece → Option (List Text)
piece_texts known (byte b) = Some (written (byte b) ∷ [])
piece_texts known (escaped b) = Some (written (escaped b) ∷ [])
piece_texts known (use_of name) = known name

-- the texts that extend these by each piece in turn, one text for each choice
abbrev pub texts_from : Known → List Text → List Piece → Option (List Text)
texts_from known begun [] = Some begun
texts_from known begun (p ∷ more) =
    option_and_then (λ choices. option_and_then (λ longer. texts_from known longer more) (fitting (each_with begun choices)))
    (piece_texts known p)

-- the texts that a value stands for
abbrev pub value_texts : Known → Text → Option (List Text)
value_texts known value = texts_from known ([] ∷ []) (pieces value)

-- the texts of these, and then those of each value in turn
abbrev pub list_from : Known → List Text → List Text → Option (List Text)
list_from known begun [] = Some begun
list_from known begun (value ∷ more) =
    option_and_then (λ texts. option_and_then (λ longer. list_from known longer more) (fitting (begun ++ texts))) (value_texts known value)

-- the texts of all values
abbrev pub list_of_values : Known → List Text → Option (List Text)
list_of_values known values = list_from known [] values

-- the list of the variable of that name, if it needs at most this many levels of variables
unfoldable pub list_at : ℕ → List Variable → Known
list_at zero variables name = None
list_at (suc n) variables name = option_and_then (list_of_values (list_at n variables)) (values_of variables name)

-- The variable has this list. It has none if a variable that it needs, possibly through others, isn't declared or needs
-- itself, or if a list on the way is too long.
abbrev pub HasList : List Variable → Text → List Text → Type 0
HasList variables name list = (n : ℕ) × (list_at n variables name ≡ Some list)

-- the names that the values of a variable use, in reading order
abbrev pub names_needed : List Text → List Text
names_needed values = flat_map used_names values

-- the variables, with this value alone for the first
abbrev pub with_first_value : List Variable → Text → List Variable
with_first_value [] value = []
with_first_value (v ∷ variables) value = record { name = v.name; values = value ∷ [] } ∷ variables
