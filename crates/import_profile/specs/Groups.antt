-- The groups of a path, by its tokens: whether each is a choice (AppArmor refuses a group of one alternative), and the paths that
-- a path whose first token opens one is led to (our choice).
use Rattle.std.specs.Prelude.{ℕ, zero, List, [], ◌∷◌, Bool, true, false, ◌&&◌, if◌then◌else◌, drop}
use Rattle.std.specs.List.{list_all}
use Rattle.rule_globs.specs.Tokens.{Token, byte, any_byte, bracket, stars, opening, between, closing}
use Rattle.rule_profile.specs.PathTokens.{depth_behind}
use Rattle.rule_profile.specs.Readable.{is_path}
use Rattle.rule_making.specs.Leads.{group_leads, slash_leads}

-- ---- choices

-- the innermost of the open groups has a comma, where one is open
abbrev pub has_comma : List Bool → Bool
has_comma [] = true
has_comma (comma ∷ opened) = comma

-- The flags say of the open groups, innermost first, whether a comma of their own comes before these tokens.
abbrev pub choose_from : List Bool → List Token → Bool
choose_from opened [] = true
choose_from opened (byte b ∷ tokens) = choose_from opened tokens
choose_from opened (any_byte ∷ tokens) = choose_from opened tokens
choose_from opened (bracket negated ranges ∷ tokens) = choose_from opened tokens
choose_from opened (stars crosses_slashes strict ∷ tokens) = choose_from opened tokens
choose_from opened (opening ∷ tokens) = choose_from (false ∷ opened) tokens
choose_from opened (between ∷ tokens) = choose_from (true ∷ drop 1 opened) tokens
choose_from opened (closing ∷ tokens) = has_comma opened && choose_from (drop 1 opened) tokens

-- each group has a comma of its own: two alternatives or more
abbrev pub groups_choose : List Token → Bool
groups_choose path = choose_from [] path

-- ---- the first group

-- the alternatives of a group, and what follows it
pub record Parts : Type 0 where
  pub alternatives : List (List Token)
  pub follow : List Token

-- one more token in front of the first alternative
abbrev pub in_first : Token → List (List Token) → List (List Token)
in_first t [] = (t ∷ []) ∷ []
in_first t (first ∷ others) = (t ∷ first) ∷ others

abbrev pub in_front : Token → Parts → Parts
in_front t parts = record { alternatives = in_first t parts.alternatives; follow = parts.follow }

abbrev pub behind_comma : Parts → Parts
behind_comma parts = record { alternatives = [] ∷ parts.alternatives; follow = parts.follow }

-- What follows a group's opening brace, `depth` groups deep within it; the first alternative begins here.
abbrev pub parts_from : ℕ → List Token → Parts
parts_from depth [] = record { alternatives = []; follow = [] }
parts_from zero (closing ∷ tokens) = record { alternatives = [] ∷ []; follow = tokens }
parts_from zero (between ∷ tokens) = behind_comma (parts_from zero tokens)
parts_from depth (t ∷ tokens) = in_front t (parts_from (depth_behind t depth) tokens)

-- ---- the paths that a path is led to

-- a group that comes first is split; else the path is left as it is, if it begins with a slash
abbrev pub leads_from : List Token → List (List Token)
leads_from [] = []
leads_from (opening ∷ tokens) = group_leads (parts_from 0 tokens).alternatives (parts_from 0 tokens).follow
leads_from (t ∷ tokens) = slash_leads (t ∷ tokens)

-- these paths, if each can be read
abbrev pub led_from : List Token → List (List Token)
led_from path = if list_all is_path (leads_from path) then leads_from path else []
