-- The profiles that some text is read as.
use Rattle.std.specs.Prelude.{ℕ, List, [], ◌∷◌, length, Bool, true, false, not, ◌&&◌, ◌||◌, ◌==◌, nat_lt, nat_le}
use Rattle.std.specs.List.{list_all, list_any}
use Rattle.names.specs.Ascii as ascii
use Rattle.names.specs.Permissions.{has, all_permissions, conflicts}
use Rattle.rule_globs.specs.declared.items.ByteRange.{ByteRange}
use Rattle.rule_globs.specs.Rules.{RuleValue, ProfileValue}
use Rattle.rule_profile.specs.Limits.{most_items, most_rules, most_nested, longest_profile_name}
use Rattle.rule_profile.specs.PathTokens.{is_plain_slash, slash_or_end_behind, depth_behind}
use Rattle.rule_globs.specs.Tokens.{Token, byte, any_byte, bracket, stars, opening, between, closing}

-- neither byte 0 nor LF
abbrev pub can_stand : ℕ → Bool
can_stand b = not (b == 0 || b == ascii.line_feed)

-- Each backslash goes with the byte after it, and no quote is by itself. The flag says whether a backslash is before
-- these bytes.
abbrev pub are_name_bytes : Bool → List ℕ → Bool
are_name_bytes escaped [] = not escaped
are_name_bytes escaped (b ∷ bytes) =
    can_stand b && (escaped || not (b == ascii.quote)) && are_name_bytes (not escaped && b == ascii.backslash) bytes

-- at least one byte and no more than fit, the first of which is no colon
abbrev pub is_name : List ℕ → Bool
is_name [] = false
is_name (b ∷ bytes) = not (b == ascii.colon) && nat_le (length (b ∷ bytes)) longest_profile_name && are_name_bytes false (b ∷ bytes)

abbrev pub is_range : ByteRange → Bool
is_range r = can_stand r.first && can_stand r.last && nat_le r.first r.last

abbrev pub is_run : Token → Bool
is_run (stars crosses_slashes strict) = true
is_run (byte b) = false
is_run any_byte = false
is_run (bracket negated ranges) = false
is_run opening = false
is_run between = false
is_run closing = false

abbrev pub begins_with_run : List Token → Bool
begins_with_run [] = false
begins_with_run (t ∷ tokens) = is_run t

-- A token directly after a plain slash or not, `depth` deep in groups, and with the tokens `behind` after it. No run is next to
-- another, and it is strict just between a plain slash and another or the path's end.
abbrev pub is_token : Bool → ℕ → List Token → Token → Bool
is_token after_slash depth behind (byte b) = can_stand b
is_token after_slash depth behind any_byte = true
is_token after_slash depth behind (bracket negated ranges) = not (length ranges == 0) && list_all is_range ranges
is_token after_slash depth behind (stars crosses_slashes true) = not (begins_with_run behind) && after_slash && slash_or_end_behind behind
is_token after_slash depth behind (stars crosses_slashes false) = not (begins_with_run behind)
    && not (after_slash && slash_or_end_behind behind)
is_token after_slash depth behind opening = nat_lt depth most_nested
is_token after_slash depth behind between = nat_lt 0 depth
is_token after_slash depth behind closing = nat_lt 0 depth

-- each token is allowed where it is, and all groups are closed in the end
abbrev pub are_tokens : Bool → ℕ → List Token → Bool
are_tokens after_slash depth [] = depth == 0
are_tokens after_slash depth (t ∷ tokens) =
    is_token after_slash depth tokens t && are_tokens (is_plain_slash t) (depth_behind t depth) tokens

abbrev pub begins_with_slash : List Token → Bool
begins_with_slash [] = false
begins_with_slash (t ∷ tokens) = is_plain_slash t

-- no more tokens than fit, the first of which is a slash
abbrev pub is_path : List Token → Bool
is_path tokens = begins_with_slash tokens && nat_le (length tokens) most_items && are_tokens false 0 tokens

-- some permission, no two that conflict, and a path
abbrev pub is_rule : RuleValue → Bool
is_rule r = list_any (has r.perms) all_permissions && not (conflicts r.perms) && is_path r.items

-- no more rules than fit
abbrev pub is_profile : ProfileValue → Bool
is_profile p = is_name p.name && nat_le (length p.rules) most_rules && list_all is_rule p.rules
