-- The canonical text of a profile: one way to write each.
use Rattle.std.specs.Prelude.{ℕ, List, [], ◌∷◌, ◌++◌, codes, ◌==◌, if◌then◌else◌}
use Rattle.std.specs.List.{list_any, flat_map}
use Rattle.names.specs.Ascii as ascii
use Rattle.names.specs.Permissions.{letters}
use Rattle.rule_globs.specs.declared.items.ByteRange.{ByteRange}
use Rattle.names.specs.declared.kind.RuleKind.{RuleKind}
use Rattle.names.specs.declared.kind.RuleKind.TheVariants.{Allow, Deny}
use Rattle.rule_reader.specs.Grammar.{ReadsAs}
use Rattle.rule_profile.specs.Profile.{RuleValue, ProfileValue}
use Rattle.rule_globs.specs.Tokens.{Token, byte, any_byte, bracket, stars, opening, between, closing}

-- the byte, after a backslash if it is one of these
abbrev pub escaped_among : List ℕ → ℕ → List ℕ
escaped_among special b = if list_any (λ s. s == b) special then ascii.backslash ∷ b ∷ [] else b ∷ []

-- a range of one is its byte
abbrev pub range_text : ByteRange → List ℕ
range_text r =
    if r.first == r.last then escaped_among (codes "\\]^-\"") r.first
    else escaped_among (codes "\\]^-\"") r.first ++ (codes "-" ++ escaped_among (codes "\\]^-\"") r.last)

abbrev pub token_text : Token → List ℕ
token_text (byte b) = escaped_among (codes "*?[{},\\\"@]") b
token_text any_byte = codes "?"
token_text (bracket negated ranges) = (if negated then codes "[^" else codes "[") ++ (flat_map range_text ranges ++ codes "]")
token_text (stars crosses_slashes strict) = if crosses_slashes then codes "**" else codes "*"
token_text opening = codes "{"
token_text between = codes ","
token_text closing = codes "}"

abbrev pub kind_text : RuleKind → List ℕ
kind_text Allow = codes "  "
kind_text Deny = codes "  deny "

abbrev pub rule_line : RuleValue → List ℕ
rule_line r = kind_text r.kind ++ (codes "\"" ++ (flat_map token_text r.items ++ (codes "\" " ++ (letters r.perms ++ codes ",\n"))))

abbrev pub qualifier_text : RuleKind → List ℕ
qualifier_text Allow = []
qualifier_text Deny = codes "deny "

-- a rule by itself: its line, without the two spaces and the line's end
abbrev pub rule_text : RuleValue → List ℕ
rule_text r = qualifier_text r.kind ++ (codes "\"" ++ (flat_map token_text r.items ++ (codes "\" " ++ (letters r.perms ++ codes ","))))

unfoldable pub canonical : ProfileValue → List ℕ
canonical p = codes "profile \"" ++ (p.name ++ (codes "\" {\n" ++ (flat_map rule_line p.rules ++ codes "}\n")))

-- some text is read as this profile
abbrev pub CanBeRead : ProfileValue → Type 0
CanBeRead p = (text : List ℕ) × ReadsAs text p
