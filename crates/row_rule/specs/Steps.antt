-- What each step makes of the view of the seat that takes it, and what that seat learns.
use Rattle.std.specs.Prelude.{◌≡◌, ℕ, ◌+◌, ◌/◌, ◌≤◌, List, [], ◌∷◌, length, drop, slice_set, Some, None, Option}
use mathlib.Core.List.{IsPrefix}
use Rattle.directory_tree.specs.declared.change.Change.{Change}
use Rattle.row_rule.specs.declared.cell.Cell.{Cell}
use Rattle.row_rule.specs.declared.view.Pending.{Pending}
use Rattle.row_rule.specs.declared.view.KeeperView.{KeeperView}
use Rattle.row_rule.specs.declared.view.WalkerView.{WalkerView}
use Rattle.row_rule.specs.Row.{count_of, target_of}

-- A walker enters, having seen nothing. It begins a walk by reading the count, reads cells, and ends it by reading the count
-- again.
abbrev pub newcomer : WalkerView
newcomer = record { seen = []; count_reads = 0; noted = 0; last = 0; reads = [] }

abbrev pub beginning : WalkerView → ℕ → List Change → WalkerView
beginning w count seen = record { seen = seen; count_reads = w.count_reads + 1; noted = count; last = count; reads = [] }

abbrev pub reading : WalkerView → Cell → WalkerView
reading w read = record { seen = w.seen; count_reads = w.count_reads; noted = w.noted; last = w.last; reads = read ∷ w.reads }

abbrev pub ending : WalkerView → ℕ → List Change → WalkerView
ending w count seen = record { seen = seen; count_reads = w.count_reads + 1; noted = w.noted; last = count; reads = w.reads }

-- a walker that reads this count has now seen these changes: the earlier ones and maybe more, half as many as the count, which
-- hasn't fallen since the last reading
abbrev pub Sees : WalkerView → ℕ → List Change → Type 0
Sees w count seen = IsPrefix w.seen seen × (length seen ≡ count / 2) × (w.last ≤ count)

-- The keeper, with these changes made and none begun, opens a change, with the cells that it will set; sets the next of them;
-- and closes the change.
abbrev pub at_rest : List Change → List ℕ → KeeperView
at_rest history cells = record { history = history; cells = cells; pending = None; met = [] }

abbrev pub opening : KeeperView → Change → List Cell → KeeperView
opening k change plan =
    record { history = k.history; cells = k.cells; pending = Some record { change = change; left = plan }; met = k.met }

abbrev pub one_fewer : Option Pending → Option Pending
one_fewer None = None
one_fewer (Some pending) = Some record { change = pending.change; left = drop 1 pending.left }

abbrev pub setting : KeeperView → Cell → KeeperView
setting k cell =
    record { history = k.history; cells = slice_set k.cells cell.place cell.word; pending = one_fewer k.pending; met = k.met }

abbrev pub closing : KeeperView → KeeperView
closing k = record { history = target_of k.history k.pending; cells = k.cells; pending = None; met = k.met }

-- the changes that were made before are still the first ones, and the count hasn't fallen
abbrev pub IsLater : KeeperView → KeeperView → Type 0
IsLater k later = IsPrefix k.history later.history × (count_of k ≤ count_of later)

-- A meeting: the keeper lends a walker's seat that has seen its whole history, and takes in the seat that the walker had,
-- noting what that one has seen.
abbrev pub lent_by : KeeperView → WalkerView
lent_by k = record { seen = k.history; count_reads = 0; noted = count_of k; last = count_of k; reads = [] }

abbrev pub meeting : KeeperView → List Change → KeeperView
meeting k seen = record { history = k.history; cells = k.cells; pending = k.pending; met = seen }
