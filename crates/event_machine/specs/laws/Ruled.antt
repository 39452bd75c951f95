-- Each legal step keeps the rule of the row.
use Rattle.std.proofs.Common.{◌≡◌, ℕ, ◌+◌, ◌==◌, Bool, true, false, List, [], ◌∷◌, ◌++◌, set, Some, None, Option, sym, refl, subst}
use Rattle.std.proofs.Common.{le_refl}
use Rattle.std.specs.Prelude.{slice_get, if◌then◌else◌}
use Rattle.directory_tree.specs.declared.change.Change.{Change}
use Rattle.directory_tree.specs.Tree.{root_alone}
use Rattle.row_rule.specs.declared.cell.Cell.{Cell}
use Rattle.row_rule.specs.declared.view.KeeperView.{KeeperView}
use Rattle.row_rule.specs.declared.view.WalkerView.{WalkerView}
use Rattle.row_rule.specs.declared.view.View.TheVariants.{Keeps, Walks}
use Rattle.row_rule.specs.declared.view.Pending.{Pending}
use Rattle.row_rule.specs.Row.{count_of, FitsWalker, KeptBy, write, left_of, target_of}
use Rattle.row_rule.specs.Steps.{newcomer, beginning, reading, ending, opening, setting, closing}
use Rattle.row_rule.specs.laws.Lists.{prefix_self}
use Rattle.row_rule.specs.laws.Rule.{half_count, newcomer_fits, walker_fits, walker_moved, opening_kept}
use Rattle.row_rule.specs.laws.KeeperSteps.{opens, sets_cell, closes}
use Rattle.tree_row.specs.Rows.{row_length}
use Rattle.tree_row.specs.OpeningRow.{opening_row}
use Rattle.tree_row.specs.laws.OpeningRow as opening_row_is
use Rattle.justification.specs.declared.answer.Answer.{Answer}
use Rattle.mediation.specs.Judge.{Judge}
use Rattle.row_plan.specs.Changes.{EncodesChanges}
use Rattle.event_machine.specs.Machine.{Call, Event, Stage, Session, Machine, with_session, first}
use Rattle.event_machine.specs.Machine.Event.{begin, read_policy, read_count, read_cell, check_count, answer, open_change, set_cell}
use Rattle.event_machine.specs.Machine.Event.{close_change, publish}
use Rattle.event_machine.specs.Machine.Stage.{resting, begun, walking, checked}
use Rattle.event_machine.specs.Takes.{Moves, Takes, after_policy}
use Rattle.event_machine.specs.Rule.{view_of, KeepsRule}

abbrev Kept : ℕ → KeeperView → WalkerView → Type 0
Kept capacity k w = KeptBy (EncodesChanges capacity) (row_length capacity) k (count_of k ∷ k.cells) (Keeps k ∷ Walks w ∷ [])

normal : (capacity : ℕ) (k : KeeperView) (w : WalkerView) (words : List ℕ) → KeptBy (EncodesChanges capacity) (row_length capacity) k words
    (Keeps k ∷ Walks w ∷ []) → Kept capacity k w
normal capacity k w words r = subst (λ (ws : List ℕ). KeptBy (EncodesChanges capacity) (row_length capacity) k ws (Keeps k ∷ Walks w ∷ []))
    r.words_are r

pub first_kept : (capacity : ℕ) → KeepsRule (first capacity)
first_kept capacity = λ s.
    opening_kept (EncodesChanges capacity) (row_length capacity) (opening_row capacity) 1 (opening_row_is.length-opening capacity)
    (root_alone, refl, opening_row_is.opens capacity)

pub fits_at : (capacity : ℕ) (k : KeeperView) (w : WalkerView) → Kept capacity k w → FitsWalker k w
fits_at capacity k w r = walker_fits (EncodesChanges capacity) (row_length capacity) k w 1 (count_of k ∷ k.cells)
    (Keeps k ∷ Walks w ∷ []) r refl

-- the walk of a session moves on
walk_moved : (capacity : ℕ) (k : KeeperView) (w new : WalkerView) → Kept capacity k w → FitsWalker k new → Kept capacity k new
walk_moved capacity k w new r f = walker_moved (EncodesChanges capacity) (row_length capacity) k w new 1 (count_of k ∷ k.cells)
    (Keeps k ∷ Walks w ∷ []) r refl f

session_moved : (m : Machine) (s : ℕ) (session : Session) → KeepsRule m → FitsWalker m.keeper (view_of session.stage) →
    KeepsRule (record m { sessions = with_session m.sessions s session })
session_moved m s session rule f = λ r.
    elim (s == r) as (λ (b : Bool). Kept m.capacity m.keeper (view_of (if b then session else m.sessions r).stage)) [
      | true ↦ walk_moved m.capacity m.keeper (view_of (m.sessions r).stage) (view_of session.stage) (rule r) f
      | false ↦ rule r
    ]

-- what a session in a stage knows fits
stage_fits : (m : Machine) (s : ℕ) (stage : Stage) → KeepsRule m → (m.sessions s).stage ≡ stage → FitsWalker m.keeper (view_of stage)
stage_fits m s stage rule is = subst (λ (z : Stage). FitsWalker m.keeper (view_of z)) is
    (fits_at m.capacity m.keeper (view_of (m.sessions s).stage) (rule s))

policy_view : (call : Call) (version : ℕ) (o : Option Judge) (k : KeeperView) → FitsWalker k (view_of (after_policy call version o))
policy_view call version None k = newcomer_fits k
policy_view call version (Some judge) k = newcomer_fits k

beginning_fits : (k : KeeperView) → FitsWalker k (beginning newcomer (count_of k) k.history)
beginning_fits k = record {
  begins = prefix_self k.history;
  half = half_count k;
  noted_low = le_refl (count_of k);
  last_low = le_refl (count_of k);
  still = λ _ _. (refl, tt);
}

reading_fits : (k : KeeperView) (w : WalkerView) (place word : ℕ) → slice_get k.cells place ≡ Some word → FitsWalker k w →
    FitsWalker k (reading w record { place = place; word = word })
reading_fits k w place word stands f = record {
  begins = f.begins;
  half = f.half;
  noted_low = f.noted_low;
  last_low = f.last_low;
  still = λ even count. let t = f.still even count in (t.0, (stands, t.1));
}

ending_fits : (k : KeeperView) (w : WalkerView) → FitsWalker k w → FitsWalker k (ending w (count_of k) k.history)
ending_fits k w f = record {
  begins = prefix_self k.history;
  half = half_count k;
  noted_low = f.noted_low;
  last_low = le_refl (count_of k);
  still = λ even stands. (refl, (f.still even stands).1);
}

opening_kept_at : (capacity : ℕ) (k : KeeperView) (w : WalkerView) (change : Change) (plan : List Cell) → Kept capacity k w →
    k.pending ≡ None → EncodesChanges capacity (write k.cells plan) (k.history ++ change ∷ []) → Kept capacity (opening k change plan) w
opening_kept_at capacity k w change plan r shut plans =
    normal capacity (opening k change plan) w (set (count_of k ∷ k.cells) 0 (count_of k + 1))
    (opens (EncodesChanges capacity) (row_length capacity) k change plan 0 (count_of k ∷ k.cells) (Keeps k ∷ Walks w ∷ [])
    (k, r) refl shut plans)

setting_kept_at : (capacity : ℕ) (k : KeeperView) (w : WalkerView) (change : Change) (cell : Cell) (left : List Cell) → Kept capacity k w →
    k.pending ≡ Some record { change = change; left = cell ∷ left } → Kept capacity (setting k cell) w
setting_kept_at capacity k w change cell left r pending =
    normal capacity (setting k cell) w (set (count_of k ∷ k.cells) (cell.place + 1) cell.word)
    (sets_cell (EncodesChanges capacity) (row_length capacity) k change cell left 0 (count_of k ∷ k.cells) (Keeps k ∷ Walks w ∷ [])
    (k, r) refl pending)

closing_kept_at : (capacity : ℕ) (k : KeeperView) (w : WalkerView) (change : Change) → Kept capacity k w →
    k.pending ≡ Some record { change = change; left = [] } → Kept capacity (closing k) w
closing_kept_at capacity k w change r pending =
    normal capacity (closing k) w (set (count_of k ∷ k.cells) 0 (count_of k + 1))
    (closes (EncodesChanges capacity) (row_length capacity) k change 0 (count_of k ∷ k.cells) (Keeps k ∷ Walks w ∷ []) (k, r) refl pending)

moves_keep : (old new : Machine) (event : Event) → KeepsRule old → Moves old event new → KeepsRule new
moves_keep old new (begin s call) rule (at, is) =
    subst KeepsRule (sym is) (session_moved old s (record { name = (old.sessions s).name; stage = begun call }) rule
    (newcomer_fits old.keeper))
moves_keep old new (read_policy s) rule (call, at, is) =
    subst KeepsRule (sym is) (session_moved old s (record { name = (old.sessions s).name; stage = _ }) rule
    (policy_view call _ _ old.keeper))
moves_keep old new (read_count s) rule (p, next, at, may, is) =
    subst KeepsRule (sym is)
    (session_moved old s
    (record { name = (old.sessions s).name; stage = walking p (beginning newcomer (count_of old.keeper) old.keeper.history) next })
    rule (beginning_fits old.keeper))
moves_keep old new (read_cell s) rule (p, w, place, word, next, at, stands, may, is) =
    subst KeepsRule (sym is)
    (session_moved old s
    (record { name = (old.sessions s).name; stage = walking p (reading w record { place = place; word = word }) next }) rule
    (reading_fits old.keeper w place word stands (stage_fits old s (walking p w (Some place)) rule at)))
moves_keep old new (check_count s) rule (p, w, at, is) =
    subst KeepsRule (sym is)
    (session_moved old s
    (record { name = (old.sessions s).name; stage = checked p (ending w (count_of old.keeper) old.keeper.history) }) rule
    (ending_fits old.keeper w (stage_fits old s (walking p w None) rule at)))
moves_keep old new (answer s) rule none = absurd none
moves_keep old new (open_change change) rule (plan, shut, lean, plans, is) =
    subst KeepsRule (sym is) (λ s. opening_kept_at old.capacity old.keeper (view_of (old.sessions s).stage) change plan
    (rule s) shut plans)
moves_keep old new set_cell rule (change, cell, left, pending, is) =
    subst KeepsRule (sym is) (λ s. setting_kept_at old.capacity old.keeper (view_of (old.sessions s).stage) change cell left
    (rule s) pending)
moves_keep old new close_change rule (change, pending, is) =
    subst KeepsRule (sym is) (λ s. closing_kept_at old.capacity old.keeper (view_of (old.sessions s).stage) change (rule s) pending)
moves_keep old new (publish deeds) rule (some_deeds, few, is) = subst KeepsRule (sym is) rule

pub takes_keep : (old new : Machine) (event : Event) (told : Option Answer) → KeepsRule old → Takes old event told new → KeepsRule new
takes_keep old new event None rule moves = moves_keep old new event rule moves
takes_keep old new event (Some told) rule (s, which, (name, may, is)) =
    subst KeepsRule (sym is) (session_moved old s (record { name = name; stage = resting }) rule (newcomer_fits old.keeper))

-- with no change open the row encodes the history
pub row_encodes : (m : Machine) → KeepsRule m → m.keeper.pending ≡ None → EncodesChanges m.capacity m.keeper.cells m.keeper.history
row_encodes m rule shut = subst (λ (p : Option Pending). EncodesChanges m.capacity (write m.keeper.cells (left_of p))
    (target_of m.keeper.history p)) shut (rule 0).encodes
