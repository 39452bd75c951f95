-- A path and a class that are being read. Only inner contracts mention them.
use Rattle.std.specs.Prelude.{◌≡◌, ◌<◌, ℕ, Bool, true, false, List, [], ◌∷◌, ◌++◌, length, map, Vec, reverse, Option, Some, None}
use Rattle.std.specs.declared.alloc.Global.{Global}
use Rattle.std.specs.List.{flat_map}
use Rattle.rule_globs.specs.declared.items.Item.{Item}
use Rattle.rule_globs.specs.declared.items.ByteRange.{ByteRange}
use Rattle.rule_reader.specs.declared.reader.class.Pending.{Pending}
use Rattle.rule_reader.specs.declared.reader.builder.OpenGroup.{OpenGroup}
use Rattle.rule_reader.specs.declared.reader.builder.Builder.{Builder}
use Rattle.rule_reader.specs.declared.reader.path.Lexeme.{Lexeme}
use Rattle.rule_reader.specs.declared.reader.path.Lexeme.TheVariants as read
use Rattle.rule_globs.specs.Tokens.{Token, tokens_of, byte, any_byte, bracket, stars, opening, between, closing}

-- alternatives that are complete, each with the comma after it
abbrev pub alternatives_tokens : List (Vec Item Global) → List Token
alternatives_tokens alternatives = flat_map (λ items. tokens_of items.items ++ between ∷ []) alternatives

-- what is before a group, its brace and its complete alternatives
abbrev pub group_tokens : OpenGroup → List Token
group_tokens group = tokens_of group.before.items ++ opening ∷ alternatives_tokens group.alternatives.items

-- the open groups, outermost first, and the items of the innermost open alternative
abbrev pub tokens_so_far : List OpenGroup → List Item → List Token
tokens_so_far groups items = flat_map group_tokens groups ++ tokens_of items

-- the open braces, innermost first
abbrev pub braces_of : List OpenGroup → List ℕ
braces_of groups = reverse (map (λ group. group.left) groups)

abbrev pub tokens_in : Builder → List Token
tokens_in builder = tokens_so_far builder.groups.items builder.items.items

abbrev pub braces_in : Builder → List ℕ
braces_in builder = braces_of builder.groups.items

-- the token that was read
abbrev pub token_value : Lexeme → Token
token_value (read.Byte b) = byte b
token_value read.AnyByte = any_byte
token_value (read.Class c) = bracket c.negated c.ranges
token_value (read.Stars s) = stars s.crosses_slashes s.strict
token_value read.Opening = opening
token_value read.Between = between
token_value read.Closing = closing

-- A token that continues a group or ends it is in one.
abbrev pub StandsIn : List ℕ → Token → Type 0
StandsIn braces between = 0 < length braces
StandsIn braces closing = 0 < length braces
StandsIn braces (byte b) = Unit {0}
StandsIn braces any_byte = Unit {0}
StandsIn braces (bracket negated ranges) = Unit {0}
StandsIn braces (stars crosses_slashes strict) = Unit {0}
StandsIn braces opening = Unit {0}

-- Ranges were added, and something is pending; or a range is reversed.
abbrev pub Adds : List ByteRange → List ByteRange → Option Pending → Option (List ByteRange × Pending) → Type 0
Adds before after None step = step ≡ None
Adds before after (Some pending) step = (ranges : List ByteRange) × (step ≡ Some (ranges, pending)) × (after ≡ before ++ ranges)

-- The last ranges were added; or there is no member.
abbrev pub AddsLast : List ByteRange → List ByteRange → Bool → Option (List ByteRange) → Type 0
AddsLast before after false last = last ≡ None
AddsLast before after true last = (ranges : List ByteRange) × (last ≡ Some ranges) × (after ≡ before ++ ranges)
