-- The text of a path with its variables in place (apparmor.d(5), "Variables"). A path that has none, or too long a one, has an
-- empty text here: the text of a profile that contains such a path is refused.
use Rattle.std.specs.Prelude.{ℕ, List, [], length, nat_le, Option, Some, None, if◌then◌else◌}
use Rattle.apparmor_variables.specs.PathTexts.{path_text}
use Rattle.apparmor_variables.specs.Variables.{Variable, list_at, most_bytes}

abbrev pub short_or_empty : Option (List ℕ) → List ℕ
short_or_empty None = []
short_or_empty (Some text) = if nat_le (length text) most_bytes then text else []

-- No list needs more levels of variables than there are variables.
abbrev pub expanded : List Variable → List ℕ → List ℕ
expanded variables path = short_or_empty (path_text (list_at (length variables) variables) path)
