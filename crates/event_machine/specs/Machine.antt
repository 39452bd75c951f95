-- A machine over events: opens by any number of sessions, one keeper of the tree, and publications of policy, one event at a
-- time. Each event is one load or one store of one word of the row that holds the tree, one entry of a session into the
-- published policy, or one publication; beginning a call and answering it touch the session alone.
use Rattle.std.specs.Prelude.{ℕ, ◌==◌, List, [], Option, if◌then◌else◌}
use Rattle.names.specs.declared.permissions.Perms.{Perms}
use Rattle.directory_tree.specs.declared.change.Change.{Change}
use Rattle.mediation.specs.Deeds.{Deed}
use Rattle.mediation.specs.Judge.{Judge}
use Rattle.row_rule.specs.declared.view.KeeperView.{KeeperView}
use Rattle.row_rule.specs.declared.view.WalkerView.{WalkerView}
use Rattle.row_rule.specs.Steps.{at_rest}
use Rattle.tree_row.specs.OpeningRow.{opening_row}

-- what a call asks: may this profile open this path for this?
pub record Call : Type 0 where
  pub profile : List ℕ
  pub path : List ℕ
  pub ask : Perms

pub data Event : Type 0 where
  -- a session begins a call; reads the policy; reads the count; reads a cell; reads the count again; answers
  begin : ℕ → Call → Event
  read_policy : ℕ → Event
  read_count : ℕ → Event
  read_cell : ℕ → Event
  check_count : ℕ → Event
  answer : ℕ → Event
  -- the keeper makes the count odd for a change; sets the next cell; makes the count even
  open_change : Change → Event
  set_cell : Event
  close_change : Event
  -- changes of the policy are published, all at once
  publish : List Deed → Event

-- A call that found its profile published: by which version of the policy, and what it says.
pub record Policed : Type 0 where
  pub call : Call
  pub policy_version : ℕ
  pub judge : Judge

-- The stage of a session's call. A walk that goes on has chosen what it does next: it reads the word at a place, or, if no place is
-- given, the count.
pub data Stage : Type 0 where
  resting : Stage
  begun : Call → Stage
  unpublished : Call → ℕ → Stage
  policed : Policed → Stage
  walking : Policed → WalkerView → Option ℕ → Stage
  checked : Policed → WalkerView → Stage

-- The name is the one that the last answer judged, empty if it judged none.
pub record Session : Type 0 where
  pub name : List ℕ
  pub stage : Stage

pub record Machine : Type 0 where
  pub capacity : ℕ
  pub keeper : KeeperView
  pub deeds : List Deed
  pub sessions : ℕ → Session

-- A session moves on, or answers and rests; the keeper's view changes; the policy does.
abbrev pub with_session : (ℕ → Session) → ℕ → Session → ℕ → Session
with_session sessions own session other = if own == other then session else sessions other

abbrev pub moved_on : Machine → ℕ → Stage → Machine
moved_on m s stage = record m { sessions = with_session m.sessions s (record { name = (m.sessions s).name; stage = stage }) }

abbrev pub answered : Machine → ℕ → List ℕ → Machine
answered m s name = record m { sessions = with_session m.sessions s (record { name = name; stage = resting }) }

abbrev pub with_keeper : Machine → KeeperView → Machine
with_keeper m keeper = record m { keeper = keeper }

abbrev pub with_deeds : Machine → List Deed → Machine
with_deeds m deeds = record m { deeds = deeds }

-- the root alone, no profile, and no call
abbrev pub new_session : Session
new_session = record { name = []; stage = resting }

abbrev pub first : ℕ → Machine
first capacity = record { capacity = capacity; keeper = at_rest [] (opening_row capacity); deeds = []; sessions = λ s. new_session }
