-- Values that are given beforehand and replace what the text says of their variables (our own: AppArmor's parser has no such option).
use Rattle.std.specs.Prelude.{ℕ, List, map, bytes_eq, Bool, ◌&&◌, if◌then◌else◌}
use Rattle.std.specs.List.{list_any}
use Rattle.apparmor_text.specs.declared.part.ItemKind.{ItemKind}
use Rattle.apparmor_text.specs.declared.part.ItemKind.TheVariants as items
use Rattle.apparmor_text.specs.Parts.{PartValue, ItemValue}
use Rattle.import_scope.specs.declared.assigned.Define.{Define}
use Rattle.import_scope.specs.ItemWords.{assigned_name}
use Rattle.import_scope.specs.Scopes.{ScopeState, at_start, behind_all}

-- a value of the variable with this name is given
abbrev pub is_given : List Define → List ℕ → Bool
is_given defines name = list_any (λ d. bytes_eq d.name.now name) defines

-- where given values replace the text's, an assignment to their variable declares as little as a blank does
abbrev pub kind_given : Bool → List Define → ItemKind → List PartValue → ItemKind
kind_given overrides defines items.Assignment parts =
    if overrides && is_given defines (assigned_name parts) then items.Blank else items.Assignment
kind_given overrides defines kind parts = kind

abbrev pub item_given : Bool → List Define → ItemValue → ItemValue
item_given overrides defines item = record { kind = kind_given overrides defines item.kind item.parts; parts = item.parts }

-- the items of a text as they declare variables and name profiles
abbrev pub items_given : Bool → List Define → List ItemValue → List ItemValue
items_given overrides defines items = map (item_given overrides defines) items

-- what a text with these items has declared and opened
abbrev pub declared_by : Bool → List Define → List ItemValue → ScopeState
declared_by overrides defines items = behind_all (at_start defines) (items_given overrides defines items)
