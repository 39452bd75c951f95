-- What is said where the grammar of profiles doesn't allow how a text goes on. The sentences are our own.
use Rattle.std.specs.Prelude.{◌≡◌, ℕ, ◌+◌, Bool, true, false, List, [], ◌∷◌, ◌++◌, ◌||◌, ◌&&◌, ◌==◌, nat_lt, length, codes}
use Rattle.std.specs.Prelude.{take, drop, Option, Some, None}
use Rattle.apparmor_text.specs.Parts.{ItemValue, bytes_of_parts}
use Rattle.apparmor_text.specs.Texts.{ReadsItems}
use Rattle.apparmor_words.specs.Steps.{Stop}

-- ---- a comma that is missing

-- the two parts of a text, with a comma and the end of a line between them
abbrev pub with_comma : List ℕ → List ℕ → List ℕ
with_comma front rest = front ++ (codes ",\n" ++ rest)

-- one of these items, before which there are `before` bytes, begins at the place
abbrev pub begins_at : ℕ → ℕ → List ItemValue → Bool
begins_at place before [] = false
begins_at place before (item ∷ items) = before == place || begins_at place (before + length (bytes_of_parts item.parts)) items

-- reading stops where fewer than this many bytes are left, or not at all
abbrev pub reads_past : ℕ → Option Stop → Bool
reads_past left None = true
reads_past left (Some stop) = nat_lt stop.left left

-- The text is divided where reading stops. With a comma there an item would end, and reading would get past that place.
abbrev pub IsCommaMissing : List ℕ → List ℕ → Bool → Type 0
IsCommaMissing front rest missing =
    (items : List ItemValue) × (end : Option Stop) × ReadsItems (with_comma front rest) items end
    × (missing ≡ (begins_at (length front + 1) 0 items && reads_past (length rest) end))

-- ---- in words

-- by what follows the place, and whether a comma is missing
abbrev pub grammar_said : List ℕ → Bool → List ℕ
grammar_said [] missing = codes "the text ends where more must follow"
grammar_said (b ∷ bytes) true = codes "a comma is missing before this"
grammar_said (b ∷ bytes) false = codes "the grammar of profiles doesn't allow what is here"

-- this is said of the place in the text
abbrev pub IsGrammarSaid : List ℕ → ℕ → List ℕ → Type 0
IsGrammarSaid text place said =
    (missing : Bool) × IsCommaMissing (take place text) (drop place text) missing × (said ≡ grammar_said (drop place text) missing)
