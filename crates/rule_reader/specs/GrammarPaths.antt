-- The grammar of a rule's path (apparmor.d(5), "Globbing"), as trees: its items, and the braces and commas of its groups, in
-- the order written.
use Rattle.std.specs.Prelude.{◌≡◌, ℕ, zero, suc, ◌≤◌, ◌<◌, List, [], ◌∷◌, ◌++◌, length, codes, Bool, true, false, not, ◌&&◌, ◌||◌, ◌==◌}
use Rattle.std.specs.Prelude.{if◌then◌else◌, nat_lt, Option, Some, None, option_map, map}
use Rattle.names.specs.Ascii as ascii
use Rattle.rule_globs.specs.declared.items.ByteRange.{ByteRange}
use Rattle.rule_globs.specs.Glob.{range, single}
use Rattle.rule_reader.specs.GrammarWords.{Cell, plain, escaped, print_cell, print_cells, byte_of, is_plain, may_stand, in_quotes}
use Rattle.rule_globs.specs.Each.{Each}
use Rattle.rule_profile.specs.Limits.{most_items, most_nested}
use Rattle.rule_profile.specs.PathTokens.{is_plain_slash, slash_or_end_behind, depth_behind}
use Rattle.rule_reader.specs.TextBytes.{is_quote, is_open_brace, is_star, ends_behind_comma, is_escapable}
use Rattle.rule_globs.specs.Tokens.{Token, byte, any_byte, bracket, stars, opening, between, closing}

-- ---- classes

-- The members of a class, from left to right. A dash by itself makes a range of the members before and after it; but one that
-- is first, last or directly after a range is a member, and not the end of a range. `apart` says that a dash here is first, or
-- directly after a range. None where a range is reversed.
unfoldable pub members : Bool → List Cell → Option (List ByteRange)
members apart [] = Some []
members apart (c ∷ []) = Some (single (byte_of c) ∷ [])
members apart (c ∷ d ∷ []) = Some (single (byte_of c) ∷ single (byte_of d) ∷ [])
members apart (c ∷ d ∷ e ∷ cells) =
    if (apart && is_plain ascii.dash c) || not (is_plain ascii.dash d)
    then option_map (λ others. single (byte_of c) ∷ others) (members false (d ∷ e ∷ cells))
    else if is_plain ascii.dash e && (length cells == 0) then Some (single (byte_of c) ∷ single (byte_of d) ∷ single (byte_of e) ∷ [])
    else if nat_lt (byte_of e) (byte_of c) then None
    else option_map (λ others. range (byte_of c) (byte_of e) ∷ others) (members true cells)

pub record WrittenClass : Type 0 where
  pub negated : Bool
  pub cells : List Cell
  -- what the members stand for
  pub ranges : List ByteRange

abbrev pub print_class : WrittenClass → List ℕ
print_class c = codes "[" ++ ((if c.negated then codes "^" else []) ++ (print_cells c.cells ++ codes "]"))

-- Any byte but a quote, a closing bracket and a backslash, where it is allowed.
abbrev pub IsClassCell : Bool → Cell → Type 0
IsClassCell quoted (plain b) = (may_stand quoted b && not (is_quote b || b == ascii.close_bracket || b == ascii.backslash)) ≡ true
IsClassCell quoted (escaped b) = is_escapable b ≡ true

-- a class that is not negated doesn't begin with ^
abbrev pub IsBegun : Bool → List Cell → Type 0
IsBegun negated [] = ⊥
IsBegun negated (c ∷ cells) = (negated || not (is_plain ascii.caret c)) ≡ true

pub record IsClass (quoted : Bool) (c : WrittenClass) : Type 0 where
  pub cells : Each (IsClassCell quoted) c.cells
  pub begun : IsBegun c.negated c.cells
  pub ranges : members true c.cells ≡ Some c.ranges

-- ---- items

pub data WrittenItem : Type 0 where
  cell : Cell → WrittenItem
  question : WrittenItem
  star : WrittenItem
  -- two stars, and this many more
  two_stars : ℕ → WrittenItem
  class : WrittenClass → WrittenItem
  -- { , }
  open_brace : WrittenItem
  comma : WrittenItem
  close_brace : WrittenItem

-- this many stars
abbrev pub star_bytes : ℕ → List ℕ
star_bytes zero = []
star_bytes (suc n) = ascii.asterisk ∷ star_bytes n

abbrev pub print_item : WrittenItem → List ℕ
print_item (cell c) = print_cell c
print_item question = codes "?"
print_item star = codes "*"
print_item (two_stars more) = ascii.asterisk ∷ ascii.asterisk ∷ star_bytes more
print_item (class c) = print_class c
print_item open_brace = codes "{"
print_item comma = codes ","
print_item close_brace = codes "}"

abbrev pub print_items : List WrittenItem → List ℕ
print_items [] = []
print_items (i ∷ items) = print_item i ++ print_items items

-- the path's next byte, if there is one
abbrev pub first_byte : List ℕ → Option ℕ
first_byte [] = None
first_byte (b ∷ bytes) = Some b

-- there is a next byte, and it passes the test
abbrev pub next_is : (ℕ → Bool) → Option ℕ → Bool
next_is test None = false
next_is test (Some b) = test b

-- A byte that stands for itself is none of the other items: no star, question mark, bracket, brace or backslash, and no comma
-- within groups. In a bare path a comma outside groups would end the path before certain bytes and at its end. A variable would
-- begin with @ and a brace.
abbrev pub stands_for_itself : Bool → ℕ → Option ℕ → ℕ → Bool
stands_for_itself quoted depth next b =
    may_stand quoted b && not (is_quote b || b == ascii.asterisk || b == ascii.question_mark || b == ascii.open_bracket
    || b == ascii.backslash || b == ascii.open_brace || b == ascii.close_brace)
    && not (b == ascii.comma && not ((depth == 0) && (quoted || next_is (λ c. not (ends_behind_comma c)) next)))
    && not (b == ascii.at_sign && next_is is_open_brace next)

-- Valid at this depth of groups, before this next byte of the path. A run of stars is one item, so no star follows it.
abbrev pub IsItem : Bool → ℕ → Option ℕ → WrittenItem → Type 0
IsItem quoted depth next (cell (plain b)) = stands_for_itself quoted depth next b ≡ true
IsItem quoted depth next (cell (escaped b)) = is_escapable b ≡ true
IsItem quoted depth next question = Unit {0}
IsItem quoted depth next star = next_is is_star next ≡ false
IsItem quoted depth next (two_stars more) = next_is is_star next ≡ false
IsItem quoted depth next (class c) = IsClass quoted c
IsItem quoted depth next open_brace = depth < most_nested
IsItem quoted depth next comma = 0 < depth
IsItem quoted depth next close_brace = 0 < depth

-- what an item stands for, which is strict only if it is a run
abbrev pub item_means : Bool → WrittenItem → Token
item_means strict (cell c) = byte (byte_of c)
item_means strict question = any_byte
item_means strict star = stars false strict
item_means strict (two_stars more) = stars true strict
item_means strict (class c) = bracket c.negated c.ranges
item_means strict open_brace = opening
item_means strict comma = between
item_means strict close_brace = closing

-- the item's token, strict or not: enough where only a slash, a brace or a comma matters
abbrev pub token_there : WrittenItem → Token
token_there i = item_means false i

abbrev pub is_plain_slash_item : WrittenItem → Bool
is_plain_slash_item i = is_plain_slash (token_there i)

abbrev pub slash_or_end_behind_item : List WrittenItem → Bool
slash_or_end_behind_item items = slash_or_end_behind (map token_there items)

abbrev pub depth_behind_item : WrittenItem → ℕ → ℕ
depth_behind_item i depth = depth_behind (token_there i) depth

-- each item is valid at its place, and all groups are closed at the end
abbrev pub AreItems : Bool → ℕ → List WrittenItem → Type 0
AreItems quoted depth [] = depth ≡ 0
AreItems quoted depth (i ∷ items) =
    IsItem quoted depth (first_byte (print_items items)) i × AreItems quoted (depth_behind_item i depth) items

-- ---- what items stand for

-- A run is strict directly after a plain slash and directly before a plain slash or the path's end.
abbrev pub items_mean : Bool → List WrittenItem → List Token
items_mean after_slash [] = []
items_mean after_slash (i ∷ items) =
    item_means (after_slash && slash_or_end_behind_item items) i ∷ items_mean (is_plain_slash_item i) items

-- ---- paths

pub record WrittenPath : Type 0 where
  pub quoted : Bool
  pub items : List WrittenItem

abbrev pub print_path : WrittenPath → List ℕ
print_path p = in_quotes p.quoted (print_items p.items)

-- a path begins with a slash, byte 47, by itself
abbrev pub IsAbsolute : List WrittenItem → Type 0
IsAbsolute [] = ⊥
IsAbsolute (i ∷ items) = i ≡ cell (plain ascii.slash)

pub record IsPath (p : WrittenPath) : Type 0 where
  pub absolute : IsAbsolute p.items
  pub items : AreItems p.quoted 0 p.items
  pub fits : length p.items ≤ most_items

abbrev pub path_means : WrittenPath → List Token
path_means p = items_mean false p.items
