-- Bytes added to a text that may not become too long. `Holds` says of a text that it is what there is after them.
use Rattle.std.specs.Prelude.{◌<◌, ◌++◌, Bool, List, length, Option, Some, None, Result, Ok, Err}
use Rattle.apparmor_variables.specs.PathTexts.{in_place}
use Rattle.apparmor_variables.specs.declared.refusal.Refusal.{Refusal}
use Rattle.apparmor_variables.specs.declared.refusal.Refusal.TheVariants.{Nothing, NoMemory}
use Rattle.apparmor_pieces.specs.Pieces.{Text}
use Rattle.apparmor_variables.specs.Variables.{most_bytes}

abbrev pub Refused : Refusal → Text → Text → Type 0
Refused Nothing old more = most_bytes < length (old ++ more)
Refused NoMemory old more = Unit {0}

-- there are the old text and more, or it would be too long, unless memory ran out
abbrev pub Adds : {X : Type 0} → Result X Refusal → (Text → Type 0) → Text → Text → Type 0
Adds (Ok _) Holds old more = Holds (old ++ more)
Adds (Err refusal) Holds old more = Refused refusal old more

-- The same of a piece in its place; where nothing is known of its variable, it is refused.
abbrev pub AddsPiece : {X : Type 0} → Result X Refusal → (Text → Type 0) → Text → Bool → Bool → Option (List Text) → Type 0
AddsPiece (Ok _) Holds old before behind None = ⊥
AddsPiece (Err refusal) Holds old before behind None = Unit {0}
AddsPiece (Ok _) Holds old before behind (Some texts) = Holds (old ++ in_place before behind texts)
AddsPiece (Err refusal) Holds old before behind (Some texts) = Refused refusal old (in_place before behind texts)

-- that text is too long, unless memory ran out
abbrev pub Exceeds : Refusal → Text → Type 0
Exceeds Nothing text = most_bytes < length text
Exceeds NoMemory text = Unit {0}
