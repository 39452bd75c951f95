-- What the events of a run do to the tree and to the policy.
use Rattle.std.specs.Prelude.{ℕ, ◌+◌, List, [], ◌∷◌, ◌++◌}
use Rattle.directory_tree.specs.declared.change.Change.{Change}
use Rattle.mediation.specs.Deeds.{Deed}
use Rattle.event_machine.specs.Machine.{Event}
use Rattle.event_machine.specs.Machine.Event.{begin, read_policy, read_count, read_cell, check_count, answer, open_change, set_cell}
use Rattle.event_machine.specs.Machine.Event.{close_change, publish}

-- the changes of the tree that one event opens, the changes that it closes, and those of the policy that it publishes
abbrev pub opens : Event → List Change
opens (open_change change) = change ∷ []
opens (begin s call) = []
opens (read_policy s) = []
opens (read_count s) = []
opens (read_cell s) = []
opens (check_count s) = []
opens (answer s) = []
opens set_cell = []
opens close_change = []
opens (publish deeds) = []

abbrev pub closes : Event → ℕ
closes close_change = 1
closes (open_change change) = 0
closes (begin s call) = 0
closes (read_policy s) = 0
closes (read_count s) = 0
closes (read_cell s) = 0
closes (check_count s) = 0
closes (answer s) = 0
closes set_cell = 0
closes (publish deeds) = 0

abbrev pub publishes : Event → List Deed
publishes (publish deeds) = deeds
publishes (begin s call) = []
publishes (read_policy s) = []
publishes (read_count s) = []
publishes (read_cell s) = []
publishes (check_count s) = []
publishes (answer s) = []
publishes (open_change change) = []
publishes set_cell = []
publishes close_change = []

-- the same for a list of events, the first event first
abbrev pub opened_by : List Event → List Change
opened_by [] = []
opened_by (event ∷ events) = opens event ++ opened_by events

abbrev pub closed_by : List Event → ℕ
closed_by [] = 0
closed_by (event ∷ events) = closes event + closed_by events

abbrev pub published_by : List Event → List Deed
published_by [] = []
published_by (event ∷ events) = publishes event ++ published_by events
