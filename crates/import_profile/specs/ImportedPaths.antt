-- The paths that the text of a path in an AppArmor profile, with its variables in place, is brought to in an import; none where
-- AppArmor and this language may read it in two ways (our choice).
use Rattle.std.specs.Prelude.{ℕ, List, [], Option, Some, None, ◌&&◌, if◌then◌else◌}
use Rattle.std.specs.List.{list_all}
use Rattle.apparmor_pieces.specs.Slashes.{one_slash}
use Rattle.rule_globs.specs.Tokens.{Token}
use Rattle.rule_reader.specs.PathText.{text_tokens}
use Rattle.import_profile.specs.Groups.{groups_choose, led_from}
use Rattle.import_profile.specs.OneWay.{is_read_one_way}
use Rattle.import_profile.specs.Settled.{is_settled}

-- the paths that a path is led to, if each of its groups is a choice and each of them is settled
abbrev pub settled_leads : List Token → List (List Token)
settled_leads path = if groups_choose path && list_all is_settled (led_from path) then led_from path else []

-- of what was read, if anything was
abbrev pub leads_of_read : Option (List Token) → List (List Token)
leads_of_read None = []
leads_of_read (Some path) = settled_leads path

-- of a text with one slash for each run
abbrev pub leads_of_text : List ℕ → List (List Token)
leads_of_text text = if is_read_one_way text then leads_of_read (text_tokens text) else []

abbrev pub imported_paths : List ℕ → List (List Token)
imported_paths text = leads_of_text (one_slash text)
