-- Whether each group of a path is a choice (AppArmor refuses a group of one alternative).
use Rattle.std.specs.Prelude.{List, length, Bool, true, ◌&&◌, nat_le}
use Rattle.std.specs.List.{list_all}
use Rattle.rule_globs.specs.declared.items.Item.{Item}
use Rattle.rule_globs.specs.declared.items.Item.TheOpen.{Item-F}
use Rattle.rule_globs.specs.declared.items.Item.TheFolds.{fold-Item}

abbrev pub node_chooses : Item-F Bool → Bool
node_chooses (Item-F.Byte b) = true
node_chooses Item-F.AnyByte = true
node_chooses (Item-F.Class c) = true
node_chooses (Item-F.Stars s) = true
node_chooses (Item-F.Group alternatives) =
    nat_le 2 (length alternatives.items) && list_all (λ items. list_all (λ c. c) items.items) alternatives.items

-- each group has two alternatives or more, within it too
abbrev pub chooses : Item → Bool
chooses = fold-Item Bool node_chooses

abbrev pub all_choose : List Item → Bool
all_choose items = list_all chooses items
