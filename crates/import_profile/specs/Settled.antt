-- Paths whose canonical text is read again unchanged, by AppArmor as by this language (our choice).
use Rattle.std.specs.Prelude.{nat_le, length, ℕ, List, Bool, not, ◌&&◌, codes, nat_eq}
use Rattle.std.specs.List.{flat_map, ends_with}
use Rattle.std.specs.Str.{bytes_eq}
use Rattle.apparmor_pieces.specs.Slashes.{one_slash}
use Rattle.apparmor_variables.specs.Variables.{most_bytes}
use Rattle.rule_globs.specs.Tokens.{Token}
use Rattle.rule_writer.specs.Canonical.{token_text}
use Rattle.import_profile.specs.Groups.{groups_choose}
use Rattle.import_profile.specs.OneWay.{is_read_one_way}

-- the canonical text of a path, as it is between quotes
abbrev pub path_text : List Token → List ℕ
path_text path = flat_map token_text path

-- each run of slashes is one, both readings are one, no backslash is at the end, and the text isn't too long
abbrev pub is_settled_text : List ℕ → Bool
is_settled_text text =
    bytes_eq (one_slash text) text
    && (is_read_one_way text && (not (ends_with nat_eq text (codes "\\")) && nat_le (length text) most_bytes))

-- and each group is a choice
abbrev pub is_settled : List Token → Bool
is_settled path = groups_choose path && is_settled_text (path_text path)
