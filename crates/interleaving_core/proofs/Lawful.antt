-- Events that aren't legal, because the part of the machine that takes them may not.
use Rattle.std.proofs.Common.{◌≡◌, ◌≢◌, ℕ, length, Some, None, Option, refl, sym, subst}
use Rattle.directory_tree.specs.declared.change.Change.{Change}
use Rattle.mediation.specs.Deeds.{policy_after}
use Rattle.justification.specs.declared.answer.Answer.{Answer}
use Rattle.row_rule.specs.Row.{count_of}
use Rattle.row_rule.specs.Steps.{newcomer, beginning, reading, ending, opening, setting, closing}
use Rattle.event_machine.specs.Machine.{Call, Event, Machine}
use Rattle.event_machine.specs.Machine.Event.{begin, read_policy, read_count, read_cell, check_count, answer, open_change, set_cell}
use Rattle.event_machine.specs.Machine.Event.{close_change}
use Rattle.event_machine.specs.Machine.Stage.{begun, walking, checked}
use Rattle.event_machine.specs.Takes.{Moves, Takes, after_policy}
use Rattle.event_machine.specs.Lawful.{IsLawful}
use Rattle.event_machine.specs.WalkSteps.{MayAnswer}
use Rattle.open_session.specs.Steps.{going_on, at_rest_with, Begins, ReadsPolicy, ReadsCount, ReadsCell, ChecksCount, MayStep, MayTell}
use Rattle.row_keeper.specs.KeeperSteps.{MayOpen, MaySet, MayClose}

not_taken : (old : Machine) (event : Event) → ((s : ℕ) → event ≢ answer s) → ((new : Machine) → ¬ (Moves old event new)) →
    (told : Option Answer) (new : Machine) → ¬ (Takes old event told new)
not_taken old event no_answer no_move None new moves = no_move new moves
not_taken old event no_answer no_move (Some told) new (s, which, answers) = no_answer s which

-- an event that isn't an answer
unlawful : (old : Machine) (event : Event) → ((s : ℕ) → event ≢ answer s) → ((new : Machine) → ¬ (Moves old event new)) →
    ¬ (IsLawful old event)
unlawful old event no_answer no_move lawful = not_taken old event no_answer no_move lawful.0 lawful.1 lawful.2

pub no_begin : (m : Machine) (s : ℕ) (call : Call) → ¬ (MayStep (Begins call) (m.sessions s)) → ¬ (IsLawful m (begin s call))
no_begin m s call none = unlawful m (begin s call) (λ r e. cc e) (λ new (at, is). none (going_on (m.sessions s) (begun call), (at, refl)))

pub no_read_policy : (m : Machine) (s : ℕ) → ¬ (MayStep (ReadsPolicy m.deeds) (m.sessions s)) → ¬ (IsLawful m (read_policy s))
no_read_policy m s none = unlawful m (read_policy s) (λ r e. cc e)
    (λ new (call, at, is). none
    (going_on (m.sessions s) (after_policy call (length m.deeds) (policy_after m.deeds call.profile)), (call, at, refl)))

no_read_count_here : (m : Machine) (s : ℕ) → ¬ (MayStep (ReadsCount m.capacity m.keeper) (m.sessions s)) → ¬ (IsLawful m (read_count s))
no_read_count_here m s none = unlawful m (read_count s) (λ r e. cc e)
    (λ new (p, next, at, may, is). none
    (going_on (m.sessions s) (walking p (beginning newcomer (count_of m.keeper) m.keeper.history) next), (p, next, at, may, refl)))

-- The sessions read rows of the machine's capacity.
pub no_read_count : (m : Machine) (s room : ℕ) → m.capacity ≡ room → ¬ (MayStep (ReadsCount room m.keeper) (m.sessions s)) →
    ¬ (IsLawful m (read_count s))
no_read_count m s room same none =
    no_read_count_here m s (subst (λ (n : ℕ). ¬ (MayStep (ReadsCount n m.keeper) (m.sessions s))) (sym same) none)

no_read_cell_here : (m : Machine) (s : ℕ) → ¬ (MayStep (ReadsCell m.capacity m.keeper.cells) (m.sessions s)) → ¬ (IsLawful m (read_cell s))
no_read_cell_here m s none = unlawful m (read_cell s) (λ r e. cc e)
    (λ new (p, w, place, word, next, at, stands, may, is).
    none (
      going_on (m.sessions s) (walking p (reading w record { place = place; word = word })
          next),
      (p, w, place, word, next, at, stands, may, refl),
    ))

pub no_read_cell : (m : Machine) (s room : ℕ) → m.capacity ≡ room → ¬ (MayStep (ReadsCell room m.keeper.cells) (m.sessions s)) →
    ¬ (IsLawful m (read_cell s))
no_read_cell m s room same none = no_read_cell_here m s (subst (λ (n : ℕ). ¬ (MayStep (ReadsCell n m.keeper.cells) (m.sessions s)))
    (sym same) none)

pub no_check_count : (m : Machine) (s : ℕ) → ¬ (MayStep (ChecksCount m.keeper) (m.sessions s)) → ¬ (IsLawful m (check_count s))
no_check_count m s none = unlawful m (check_count s) (λ r e. cc e)
    (λ new (p, w, at, is). none (going_on (m.sessions s) (checked p (ending w (count_of m.keeper) m.keeper.history)), (p, w, at, refl)))

answer_session : (r s : ℕ) → answer r ≡ answer s → r ≡ s
answer_session r s e = cc e

no_told : (m : Machine) (s : ℕ) → ¬ (MayTell m.capacity (m.sessions s)) → (told : Option Answer) (new : Machine) →
    ¬ (Takes m (answer s) told new)
no_told m s none None new never = never
no_told m s none (Some told) new (r, which, (name, may, is)) =
    let own : s ≡ r = answer_session s r which in
    none (told, at_rest_with name, (name, subst (λ (z : ℕ). MayAnswer m.capacity (m.sessions z).stage told name) (sym own) may, refl))

pub no_answer : (m : Machine) (s room : ℕ) → m.capacity ≡ room → ¬ (MayTell room (m.sessions s)) → ¬ (IsLawful m (answer s))
no_answer m s room same none lawful = no_told m s (subst (λ (n : ℕ). ¬ (MayTell n (m.sessions s))) (sym same) none)
    lawful.0 lawful.1 lawful.2

pub no_open : (m : Machine) (change : Change) → ¬ (MayOpen m.capacity m.keeper change) → ¬ (IsLawful m (open_change change))
no_open m change none = unlawful m (open_change change) (λ r e. cc e)
    (λ new (plan, shut, lean, encodes, is). none (opening m.keeper change plan, (plan, (shut, lean, encodes), refl)))

pub no_set : (m : Machine) → ¬ (MaySet m.keeper) → ¬ (IsLawful m set_cell)
no_set m none = unlawful m set_cell (λ r e. cc e)
    (λ new (change, cell, left, pending, is). none (setting m.keeper cell, (change, cell, left, pending, refl)))

pub no_close : (m : Machine) → ¬ (MayClose m.keeper) → ¬ (IsLawful m close_change)
no_close m none = unlawful m close_change (λ r e. cc e)
    (λ new (change, pending, is). none (closing m.keeper, (change, pending, refl)))
