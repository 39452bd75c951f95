-- The limits of a profile text (our choice).
pub use Rattle.rule_globs.specs.Limits.{most_items, most_places}
use Rattle.std.specs.Prelude.{ℕ}

-- the most rules of a profile
abbrev pub most_rules : ℕ
most_rules = 1024

-- how deep the groups of a path may nest
abbrev pub most_nested : ℕ
most_nested = 50

-- the most bytes of a profile's name
abbrev pub longest_profile_name : ℕ
longest_profile_name = 255
