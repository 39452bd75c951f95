-- The file rules that are directly in one of the profiles of a text, by its braces.
use Rattle.std.specs.Prelude.{ℕ, ◌+◌, List, [], ◌∷◌, ◌++◌, length, ◌&&◌, if◌then◌else◌}
use Rattle.apparmor_text.specs.Parts.{ItemValue, bytes_of_parts}
use Rattle.import_spans.specs.Cuts.{is_rule}
use Rattle.import_spans.specs.Nests.{Nesting, is_innermost, nested}
use Rattle.apparmor_variables.specs.Variables.{Variable}
use Rattle.import_profile.specs.FileRules.{PlacedRule, subject_rule}

-- The rules of these items that are directly in the profile with this number, where this many bytes and this nesting come before.
abbrev pub rules_inside : List Variable → ℕ → ℕ → Nesting → List ItemValue → List PlacedRule
rules_inside variables number place n [] = []
rules_inside variables number place n (item ∷ items) =
    (if is_innermost number n.still_open && is_rule item.kind
    then record { place = place; rule = subject_rule variables item.parts } ∷ [] else [])
    ++ rules_inside variables number (place + length (bytes_of_parts item.parts)) (nested item.kind n) items
