-- The lines that report why an import refuses a text: the number of the refusal's kind, the place and the word if there are any,
-- and names.
use Rattle.std.specs.Prelude.{ℕ, List, [], ◌++◌, codes, decimal, flat_map, map, Option, Some, None}
use Rattle.apparmor_rules.specs.ShownTexts.{shown_byte, shown_text}
use Rattle.import_origins.specs.PlaceText.{place_text}
use Rattle.rule_explain.specs.declared.place.Place.{Place}

abbrev pub refusal_front : ℕ → List ℕ
refusal_front number = codes "refused: import " ++ decimal number

abbrev pub at_place : Option Place → List ℕ
at_place (Some place) = codes " at " ++ place_text place
at_place None = []

abbrev pub word_told : Option (List ℕ) → List ℕ
word_told (Some word) = codes " (" ++ (shown_text word ++ codes ")")
word_told None = []

-- each name is on a line of its own, with its control bytes replaced
abbrev pub name_line : List ℕ → List ℕ
name_line name = codes "\n" ++ map shown_byte name

-- `refused: import 3 at 2:1 (if)`; the last line has no line break
abbrev pub refusal_text : ℕ → Option Place → Option (List ℕ) → List (List ℕ) → List ℕ
refusal_text number place word names = refusal_front number ++ (at_place place ++ (word_told word ++ flat_map name_line names))
