-- Flattened profile texts (apparmor.d(5), "Format"; apparmor_parser(8), --preprocess): their items in order, up to the end or
-- to the first fault.
use Rattle.std.specs.Prelude.{◌≡◌, ℕ, ◌+◌, ◌-◌, List, [], ◌∷◌, length, codes, Result, Ok, Err, Option, Some, None, Bool, true, false}
use Rattle.std.specs.Prelude.{◌&&◌, ◌==◌, if◌then◌else◌}
use Rattle.names.specs.Ascii as ascii
use Rattle.rule_reader.specs.TextBytes.{begins, opens_blank, is_close_brace}
use Rattle.rule_reader.specs.ReadWords.{word, is_word}
use Rattle.apparmor_text.specs.declared.part.PartKind.TheVariants as parts
use Rattle.apparmor_text.specs.declared.part.ItemKind.{ItemKind}
use Rattle.apparmor_text.specs.declared.part.ItemKind.TheVariants as items
use Rattle.apparmor_text.specs.declared.text.Position.{Position}
use Rattle.apparmor_text.specs.Parts.{ItemValue}
use Rattle.apparmor_words.specs.Steps.{Stop, include, syntax, fault_here, syntax_here}
use Rattle.apparmor_text.specs.Readings.{Reading, taken}
use Rattle.apparmor_words.specs.Words.{is_path}
use Rattle.apparmor_text.specs.WordParts.{blank_part}
use Rattle.apparmor_text.specs.Statements.{statement_part, boolean_part}
use Rattle.apparmor_text.specs.Headers.{named_head, profile_head, hat_head, caret_head}
use Rattle.apparmor_words.specs.Assignments.{is_assignment}
use Rattle.apparmor_text.specs.Assignments.{assignment_part}
use Rattle.apparmor_text.specs.Rules.{word_left_out, of_kind, rule_item}

-- Within a profile: its end, a hat, a child, a statement or a rule.
unfoldable pub inner_item : Reading → Result (ItemKind × Reading) Stop
inner_item s =
    if begins is_close_brace s.rest then Ok (items.Close, taken parts.Close 1 s)
    else if begins (λ b. b == ascii.caret) s.rest then of_kind items.Hat (caret_head s)
    else if is_word (codes "hat") s.rest then of_kind items.Hat (hat_head s)
    else if is_word (codes "profile") s.rest then of_kind items.Profile (profile_head s)
    else rule_item s

-- Outside of profiles: an assignment, if no profile has begun; a profile; a boolean; or the word abi.
unfoldable pub outer_item : Bool → Reading → Result (ItemKind × Reading) Stop
outer_item begun s =
    if is_assignment s.rest then (if begun then syntax_here s.rest else of_kind items.Assignment (assignment_part s))
    else if is_path s.rest then of_kind items.Profile (named_head s)
    else if begins (λ b. b == ascii.dollar) s.rest then of_kind items.Statement (boolean_part s)
    else if is_word (codes "include") s.rest then fault_here include s.rest
    else if is_word (codes "profile") s.rest then of_kind items.Profile (profile_head s)
    else if is_word (codes "abi") s.rest then of_kind items.Statement (statement_part s)
    else if length (word s.rest) == 0 then syntax_here s.rest
    else word_left_out s.rest

-- before the text: no profile is open, and none has begun
abbrev pub at_start : Position
at_start = record { depth = 0; begun = false }

-- what begins here, which is not the text's end
unfoldable pub item_at : Position → Reading → Result (ItemKind × Reading) Stop
item_at position s =
    if begins opens_blank s.rest then of_kind items.Blank (blank_part s)
    else if position.depth == 0 then outer_item position.begun s
    else inner_item s

-- the position after an item of this kind
abbrev pub behind_item : ItemKind → Position → Position
behind_item items.Profile position = record { depth = position.depth + 1; begun = true }
behind_item items.Hat position = record { depth = position.depth + 1; begun = true }
behind_item items.Close position = record { depth = position.depth - 1; begun = position.begun }
behind_item items.Blank position = position
behind_item items.Assignment position = position
behind_item items.Statement position = position
behind_item items.Rule position = position

-- the text may end here: after a profile, and in none
abbrev pub may_end : Position → Bool
may_end position = position.begun && (position.depth == 0)

-- The items from here on, and the fault at which they stop, if they do.
pub data ReadsFrom : Position → List ℕ → List ItemValue → Option Stop → Type 0 where
  ends : (position : Position) → may_end position ≡ true → ReadsFrom position [] [] None
  lacks : (position : Position) → may_end position ≡ false → ReadsFrom position [] [] (Some (record { kind = syntax; left = 0 }))
  stops : (position : Position) (b : ℕ) (bytes : List ℕ) (stop : Stop) →
      item_at position (record { parts = []; rest = b ∷ bytes }) ≡ Err stop → ReadsFrom position (b ∷ bytes) [] (Some stop)
  goes_on : (position : Position) (b : ℕ) (bytes : List ℕ) (kind : ItemKind) (s : Reading) (others : List ItemValue) (end : Option Stop) →
      item_at position (record { parts = []; rest = b ∷ bytes }) ≡ Ok (kind, s) →
      ReadsFrom (behind_item kind position) s.rest others end →
      ReadsFrom position (b ∷ bytes) (record { kind = kind; parts = s.parts } ∷ others) end

-- the items of a text, and the fault at which they stop, if they do
abbrev pub ReadsItems : List ℕ → List ItemValue → Option Stop → Type 0
ReadsItems text items end = ReadsFrom at_start text items end
