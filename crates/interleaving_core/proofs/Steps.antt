-- A step of one part of the machine is a step of the machine.
use Rattle.std.proofs.Common.{◌≡◌, ℕ, zero, suc, [], Some, None, refl, sym, ap, ◌∙◌, subst}
use Rattle.directory_tree.specs.declared.change.Change.{Change}
use Rattle.justification.specs.declared.answer.Answer.{Answer}
use Rattle.row_rule.specs.declared.view.KeeperView.{KeeperView}
use Rattle.event_machine.specs.Machine.{Call, Session, Machine, with_session}
use Rattle.event_machine.specs.Machine.Event.{begin, read_policy, read_count, read_cell, check_count, answer, open_change, set_cell}
use Rattle.event_machine.specs.Machine.Event.{close_change}
use Rattle.event_machine.specs.Takes.{Takes}
use Rattle.event_machine.specs.Runs.{Runs}
use Rattle.event_machine.specs.Lawful.{cell_reads}
use Rattle.open_session.specs.Steps.{Begins, ReadsPolicy, ReadsCount, ReadsCell, CellReads, ChecksCount, Answers}
use Rattle.row_keeper.specs.KeeperSteps.{IsOpened, IsSet, IsClosed}
use Rattle.interleaving_core.specs.Table.{StepsIn}
use Rattle.interleaving_core.proofs.AllSessions.{All_of, own_is, set_same, set_again}

-- a machine with these sessions
abbrev pub with_all : Machine → All_of → Machine
with_all m f = record m { sessions = f }

-- if one session is this one now
set_is : (m : Machine) (s : ℕ) (f : All_of) (x y : Session) → f ≡ with_session m.sessions s x → x ≡ y →
    with_all m f ≡ with_all m (with_session m.sessions s y)
set_is m s f x y all own = ap (with_all m) (all ∙ ap (with_session m.sessions s) own)

pub begins : (m : Machine) (s : ℕ) (f : All_of) (call : Call) → StepsIn (Begins call) s m.sessions f →
    Takes m (begin s call) None (with_all m f)
begins m s f call (x, (at, own), all) = (at, set_is m s f x _ all own)

pub reads_policy : (m : Machine) (s : ℕ) (f : All_of) → StepsIn (ReadsPolicy m.deeds) s m.sessions f →
    Takes m (read_policy s) None (with_all m f)
reads_policy m s f (x, (call, at, own), all) = (call, at, set_is m s f x _ all own)

reads_count_here : (m : Machine) (s : ℕ) (f : All_of) → StepsIn (ReadsCount m.capacity m.keeper) s m.sessions f →
    Takes m (read_count s) None (with_all m f)
reads_count_here m s f (x, (p, next, at, may, own), all) = (p, next, at, may, set_is m s f x _ all own)

-- The sessions read rows of the machine's capacity.
pub reads_count : (m : Machine) (s room : ℕ) (f : All_of) → m.capacity ≡ room → StepsIn (ReadsCount room m.keeper) s m.sessions f →
    Takes m (read_count s) None (with_all m f)
reads_count m s room f same steps =
    reads_count_here m s f (subst (λ (n : ℕ). StepsIn (ReadsCount n m.keeper) s m.sessions f) (sym same) steps)

reads_cell_here : (m : Machine) (s : ℕ) (f : All_of) → StepsIn (ReadsCell m.capacity m.keeper.cells) s m.sessions f →
    Takes m (read_cell s) None (with_all m f)
reads_cell_here m s f (x, (p, w, place, word, next, at, stands, may, own), all) =
    (p, w, place, word, next, at, stands, may, set_is m s f x _ all own)

pub reads_cell : (m : Machine) (s room : ℕ) (f : All_of) → m.capacity ≡ room → StepsIn (ReadsCell room m.keeper.cells) s m.sessions f →
    Takes m (read_cell s) None (with_all m f)
reads_cell m s room f same steps = reads_cell_here m s f (subst (λ (n : ℕ). StepsIn (ReadsCell n m.keeper.cells) s m.sessions f)
    (sym same) steps)

pub checks_count : (m : Machine) (s : ℕ) (f : All_of) → StepsIn (ChecksCount m.keeper) s m.sessions f →
    Takes m (check_count s) None (with_all m f)
checks_count m s f (x, (p, w, at, own), all) = (p, w, at, set_is m s f x _ all own)

answers_here : (m : Machine) (s : ℕ) (f : All_of) (told : Answer) → StepsIn (Answers m.capacity told) s m.sessions f →
    Takes m (answer s) (Some told) (with_all m f)
answers_here m s f told (x, (name, may, own), all) = (s, refl, (name, may, set_is m s f x _ all own))

pub answers : (m : Machine) (s room : ℕ) (f : All_of) (told : Answer) → m.capacity ≡ room → StepsIn (Answers room told) s m.sessions f →
    Takes m (answer s) (Some told) (with_all m f)
answers m s room f told same steps = answers_here m s f told (subst (λ (n : ℕ). StepsIn (Answers n told) s m.sessions f) (sym same) steps)

read_on : (m : Machine) (s count : ℕ) (last : Session) → CellReads m.capacity m.keeper.cells count (m.sessions s) last →
    Runs m (cell_reads s count) [] (with_all m (with_session m.sessions s last))
read_on m s zero last same = (refl, ap (with_all m) (set_same m.sessions s last same))
read_on m s (suc count) last (between, reads, later) =
    let f : All_of = with_session m.sessions s between in
    let own : between ≡ f s = sym (own_is m.sessions s between) in
    let rest : Runs (with_all m f) (cell_reads s count) [] (with_all m (with_session f s last)) =
    read_on (with_all m f) s count last (subst (λ (x : Session). CellReads m.capacity m.keeper.cells count x last) own later) in (
      None,
      with_all m f,
      [],
      reads_cell_here m s f (between, reads, refl),
      subst (λ (g : All_of). Runs (with_all m f) (cell_reads s count) [] (with_all m g)) (set_again m.sessions s last between) rest,
      refl,
    )

reads_cells_here : (m : Machine) (s count : ℕ) (f : All_of) → StepsIn (CellReads m.capacity m.keeper.cells count) s m.sessions f →
    Runs m (cell_reads s count) [] (with_all m f)
reads_cells_here m s count f (last, reads, all) =
    subst (λ (g : All_of). Runs m (cell_reads s count) [] (with_all m g)) (sym all) (read_on m s count last reads)

-- `count` readings of a cell
pub reads_cells : (m : Machine) (s count room : ℕ) (f : All_of) → m.capacity ≡ room → StepsIn (CellReads room m.keeper.cells count) s
    m.sessions f → Runs m (cell_reads s count) [] (with_all m f)
reads_cells m s count room f same steps = reads_cells_here m s count f
    (subst (λ (n : ℕ). StepsIn (CellReads n m.keeper.cells count) s m.sessions f) (sym same) steps)

-- a machine with this capacity and this keeper
abbrev pub with_row : Machine → ℕ × KeeperView → Machine
with_row m k = record m { capacity = k.0; keeper = k.1 }

row_is : (m : Machine) (k : ℕ × KeeperView) (keeper : KeeperView) → k.0 ≡ m.capacity → k.1 ≡ keeper →
    with_row m k ≡ record m { keeper = keeper }
row_is m k keeper room is = λ i. record m { capacity = room i; keeper = is i }

pub opens_change : (m : Machine) (k : ℕ × KeeperView) (change : Change) → k.0 ≡ m.capacity → IsOpened m.capacity m.keeper change k.1 →
    Takes m (open_change change) None (with_row m k)
opens_change m k change room (plan, (shut, lean, encodes), is) = (plan, shut, lean, encodes, row_is m k _ room is)

pub sets_cell : (m : Machine) (k : ℕ × KeeperView) → k.0 ≡ m.capacity → IsSet m.keeper k.1 → Takes m set_cell None (with_row m k)
sets_cell m k room (change, cell, left, pending, is) = (change, cell, left, pending, row_is m k _ room is)

pub closes_change : (m : Machine) (k : ℕ × KeeperView) → k.0 ≡ m.capacity → IsClosed m.keeper k.1 →
    Takes m close_change None (with_row m k)
closes_change m k room (change, pending, is) = (change, pending, row_is m k _ room is)
