-- A rule's path as the row of its tokens: its items in the order written, and the braces and commas of its groups.
use Rattle.std.specs.Prelude.{ℕ, Bool, true, not, ◌&&◌, ◌==◌, length, List, [], ◌∷◌, ◌++◌, map}
use Rattle.std.specs.List.{flat_map, list_all}
use Rattle.rule_globs.specs.Glob.{Glob, empty, one, cat, none, alt, exactly, not_slash, class}
use Rattle.rule_globs.specs.Meaning.{stars_glob}
use Rattle.rule_globs.specs.declared.items.ByteRange.{ByteRange}
use Rattle.rule_globs.specs.declared.items.Item.{Item}
use Rattle.rule_globs.specs.declared.items.Item.TheOpen.{Item-F}
use Rattle.rule_globs.specs.declared.items.Item.TheFolds.{fold-Item}

pub data Token : Type 0 where
  -- that byte
  byte : ℕ → Token
  -- ?
  any_byte : Token
  -- whether it is negated, and its ranges
  bracket : Bool → List ByteRange → Token
  -- whether it crosses slashes, and whether it is strict
  stars : Bool → Bool → Token
  -- { , }
  opening : Token
  between : Token
  closing : Token

-- ---- the pattern

-- What follows a place of a path: the pattern from there to the end of the innermost open alternative; and for each open
-- group, innermost first, that of its further alternatives and that of what follows the group.
pub record Behind : Type 0 where
  pub here : Glob
  pub groups : List (Glob × Glob)

abbrev pub next_alternative : Glob → List (Glob × Glob) → Behind
next_alternative here [] = record { here = here; groups = [] }
next_alternative here (group ∷ groups) = record { here = empty; groups = (alt here group.0, group.1) ∷ groups }

abbrev pub whole_group : Glob → List (Glob × Glob) → Behind
whole_group here [] = record { here = here; groups = [] }
whole_group here (group ∷ groups) = record { here = cat (alt here group.0) group.1; groups = groups }

abbrev pub one_more : Glob → Behind → Behind
one_more g behind = record { here = cat g behind.here; groups = behind.groups }

-- one more token, in front of what follows it
abbrev pub before : Token → Behind → Behind
before (byte b) behind = one_more (one (exactly b)) behind
before any_byte behind = one_more (one not_slash) behind
before (bracket negated ranges) behind = one_more (one (class negated ranges)) behind
before (stars crosses_slashes strict) behind = one_more (stars_glob crosses_slashes strict) behind
before closing behind = record { here = empty; groups = (none, behind.here) ∷ behind.groups }
before between behind = next_alternative behind.here behind.groups
before opening behind = whole_group behind.here behind.groups

abbrev pub behind_all : List Token → Behind
behind_all [] = record { here = empty; groups = [] }
behind_all (t ∷ tokens) = before t (behind_all tokens)

-- the pattern that a path stands for
abbrev pub pattern_of : List Token → Glob
pattern_of tokens = (behind_all tokens).here

-- ---- the tokens of items

-- one list after another, with a comma between each two
abbrev pub with_commas : List (List Token) → List Token
with_commas [] = []
with_commas (first ∷ []) = first
with_commas (first ∷ second ∷ others) = first ++ (between ∷ with_commas (second ∷ others))

abbrev pub node_tokens : Item-F (List Token) → List Token
node_tokens (Item-F.Byte b) = byte b ∷ []
node_tokens Item-F.AnyByte = any_byte ∷ []
node_tokens (Item-F.Class c) = bracket c.negated c.ranges ∷ []
node_tokens (Item-F.Stars s) = stars s.crosses_slashes s.strict ∷ []
node_tokens (Item-F.Group alternatives) =
    opening ∷ (with_commas (map (λ items. flat_map (λ t. t) items.items) alternatives.items) ++ closing ∷ [])

abbrev pub tokens : Item → List Token
tokens = fold-Item (List Token) node_tokens

-- the tokens of a list of items
abbrev pub tokens_of : List Item → List Token
tokens_of items = flat_map tokens items

-- ---- groups

abbrev pub node_full : Item-F Bool → Bool
node_full (Item-F.Byte b) = true
node_full Item-F.AnyByte = true
node_full (Item-F.Class c) = true
node_full (Item-F.Stars s) = true
node_full (Item-F.Group alternatives) =
    not (length alternatives.items == 0) && list_all (λ items. list_all (λ full. full) items.items) alternatives.items

-- each group has an alternative
abbrev pub is_full : Item → Bool
is_full = fold-Item Bool node_full

abbrev pub all_full : List Item → Bool
all_full items = list_all is_full items
