-- How the parts of a machine are consistent with each other.
use Rattle.std.specs.Prelude.{◌≡◌, ℕ, List}
use Rattle.mediation.specs.Deeds.{Deed}
use Rattle.row_rule.specs.declared.view.KeeperView.{KeeperView}
use Rattle.event_machine.specs.Machine.{Session}
use Rattle.event_machine.specs.Rule.{KeepsRule}
use Rattle.interleaving_core.specs.Parts.{Parts, machine_of}

-- the parts, by the views of a keeper, a policy and the sessions
abbrev pub parts_in : ℕ × KeeperView → List Deed → ℕ × List (ℕ × (ℕ × Session)) → Parts
parts_in keeper deeds sessions = record { capacity = keeper.0; keeper = keeper.1; deeds = deeds; sessions = sessions }

-- The sessions read rows of the keeper's capacity, and the rule of the row holds.
pub record IsStanding (keeper : ℕ × KeeperView) (deeds : List Deed) (sessions : ℕ × List (ℕ × (ℕ × Session))) : Type 0 where
  pub one_capacity : keeper.0 ≡ sessions.0
  pub keeps : KeepsRule (machine_of (parts_in keeper deeds sessions))
