-- Paths that can be read, all or none.
use Rattle.std.specs.Prelude.{List, [], if◌then◌else◌}
use Rattle.std.specs.List.{list_all}
use Rattle.rule_globs.specs.Tokens.{Token}
use Rattle.rule_profile.specs.Readable.{is_path}

abbrev pub all_readable : List (List Token) → List (List Token)
all_readable paths = if list_all is_path paths then paths else []
