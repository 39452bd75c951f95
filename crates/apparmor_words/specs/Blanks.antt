-- Whitespace and comments.
use Rattle.std.specs.Prelude.{ℕ, List, [], ◌∷◌, Bool, true, false, not, ◌&&◌, ◌==◌, if◌then◌else◌}
use Rattle.names.specs.Ascii as ascii
use Rattle.rule_reader.specs.TextBytes.{is_white, is_hash}

-- only whitespace and comments, starting within a comment or outside one
abbrev pub is_blank : Bool → List ℕ → Bool
is_blank comment [] = true
is_blank true (b ∷ bytes) = is_blank (not (b == ascii.line_feed)) bytes
is_blank false (b ∷ bytes) = if is_white b then is_blank false bytes else is_hash b && is_blank true bytes
