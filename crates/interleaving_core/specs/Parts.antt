-- A machine over events by its parts, which are data: a function from all session numbers isn't.
use Rattle.std.specs.Prelude.{ℕ, List}
use Rattle.mediation.specs.Deeds.{Deed}
use Rattle.row_rule.specs.declared.view.KeeperView.{KeeperView}
use Rattle.event_machine.specs.Machine.{Session, Machine}
use Rattle.interleaving_core.specs.Table.{session_in}

-- The sessions are those that began a call, by their numbers, together with the capacity of the row that they read.
pub record Parts : Type 0 where
  pub capacity : ℕ
  pub keeper : KeeperView
  pub deeds : List Deed
  pub sessions : ℕ × List (ℕ × (ℕ × Session))

abbrev pub machine_of : Parts → Machine
machine_of parts = record { capacity = parts.capacity; keeper = parts.keeper; deeds = parts.deeds; sessions = session_in parts.sessions }
