-- What is next to a token of a path: plain slashes and the path's end, and how deep in groups it is.
use Rattle.std.specs.Prelude.{ℕ, suc, ◌-◌, List, [], ◌∷◌, Bool, true, false}
use Rattle.rule_globs.specs.Glob.{is_slash}
use Rattle.rule_globs.specs.Tokens.{Token, byte, any_byte, bracket, stars, opening, between, closing}

-- a slash that stands for itself
abbrev pub is_plain_slash : Token → Bool
is_plain_slash (byte b) = is_slash b
is_plain_slash any_byte = false
is_plain_slash (bracket negated ranges) = false
is_plain_slash (stars crosses_slashes strict) = false
is_plain_slash opening = false
is_plain_slash between = false
is_plain_slash closing = false

-- a plain slash follows, or the path's end
abbrev pub slash_or_end_behind : List Token → Bool
slash_or_end_behind [] = true
slash_or_end_behind (t ∷ tokens) = is_plain_slash t

-- how deep in groups what follows a token is
abbrev pub depth_behind : Token → ℕ → ℕ
depth_behind opening depth = suc depth
depth_behind closing depth = depth - 1
depth_behind between depth = depth
depth_behind (byte b) depth = depth
depth_behind any_byte depth = depth
depth_behind (bracket negated ranges) depth = depth
depth_behind (stars crosses_slashes strict) depth = depth
