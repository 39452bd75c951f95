-- What a walk saw that was not disturbed.
use Rattle.std.specs.Prelude.{ℕ, List}
use Rattle.directory_tree.specs.Tree.{Tree, WellFormed}
use Rattle.row_rule.specs.declared.view.KeeperView.{KeeperView}
use Rattle.row_rule.specs.declared.view.WalkerView.{WalkerView}
use Rattle.row_rule.specs.Row.{Agrees, count_of}
use Rattle.row_rule.specs.Steps.{ending}
use Rattle.tree_row.specs.Rows.{Encodes}
use Rattle.event_machine.specs.Machine.{Stage}
use Rattle.event_machine.specs.Machine.Stage.{resting, begun, unpublished, policed, walking, checked}
use Rattle.event_machine.specs.WalkSteps.{IsStill}

-- if its counts are one even number, what it read agrees with some row that encodes a sound tree
abbrev pub SawTree : ℕ → WalkerView → Type 0
SawTree capacity w = IsStill w → (row : List ℕ) × (t : Tree) × Agrees w.reads row × WellFormed t × Encodes capacity row t

-- the same of a walk, if it reads the count again now
abbrev pub SeesTree : ℕ → KeeperView → Stage → Type 0
SeesTree capacity keeper (walking p w next) = SawTree capacity (ending w (count_of keeper) keeper.history)
SeesTree capacity keeper resting = Unit {0}
SeesTree capacity keeper (begun call) = Unit {0}
SeesTree capacity keeper (unpublished call version) = Unit {0}
SeesTree capacity keeper (policed p) = Unit {0}
SeesTree capacity keeper (checked p w) = Unit {0}
