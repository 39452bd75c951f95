-- What a seat at the table of words knows: a view of the rule. No seat holds a slot.
use Rattle.std.specs.Prelude.{◌≡◌, []}
use Rattle.atomic_table.specs.Table.{Me}
use Rattle.atomic_table.specs.declared.shared.Seat.{Seat}
use Rattle.row_rule.specs.declared.view.KeeperView.{KeeperView}
use Rattle.row_rule.specs.declared.view.WalkerView.{WalkerView}
use Rattle.row_rule.specs.declared.view.View.{View}
use Rattle.row_rule.specs.declared.view.View.TheVariants.{Keeps, Walks}
use Rattle.row_rule.specs.Steps.{newcomer, at_rest}

abbrev pub Mine : Type 0
Mine = Me (Unit {0}) View

-- what a walker knows, and what the keeper knows; arbitrary for the other kind of seat
abbrev pub walker_of : View → WalkerView
walker_of (Keeps k) = newcomer
walker_of (Walks w) = w

abbrev pub keeper_of : View → KeeperView
keeper_of (Keeps k) = k
keeper_of (Walks w) = at_rest [] []

-- what the keeper knows in its seat
abbrev pub keeper_in : Seat (Unit {0}) View → KeeperView
keeper_in seat = keeper_of seat.me.0

abbrev pub walking : WalkerView → Mine
walking w = (Walks w, [])

abbrev pub keeping : KeeperView → Mine
keeping k = (Keeps k, [])

abbrev pub IsWalking : Mine → Type 0
IsWalking me = me ≡ walking (walker_of me.0)

abbrev pub IsKeeping : Mine → Type 0
IsKeeping me = me ≡ keeping (keeper_of me.0)
