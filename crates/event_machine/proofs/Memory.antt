-- Events that need memory are legal, or may be.
use Rattle.std.proofs.Common.{◌≡◌, ℕ, List, [], ◌∷◌, ◌++◌, length, Some, None, Option, refl, subst, sym}
use Rattle.std.specs.Prelude.{IsOk}
use Rattle.directory_tree.specs.declared.change.Change.{Change}
use Rattle.directory_tree.specs.Apply.{Changed, tree_after}
use Rattle.mediation.specs.Deeds.{Deed, policy_after}
use Rattle.justification.specs.declared.answer.Answer.{Answer}
use Rattle.event_machine.specs.Machine.{Call, Event, Machine, moved_on, with_deeds}
use Rattle.event_machine.specs.Machine.Event.{begin, read_policy, read_cell, answer, open_change, publish}
use Rattle.event_machine.specs.Machine.Stage.{begun}
use Rattle.event_machine.specs.Takes.{Moves, Takes, after_policy}
use Rattle.event_machine.specs.Lawful.{IsLawful, TakesMemory}

pub begins : (m : Machine) (s : ℕ) (call : Call) → TakesMemory m (begin s call) → IsLawful m (begin s call)
begins m s call rests = (None, moved_on m s (begun call), (rests, refl))

pub reads_policy : (m : Machine) (s : ℕ) → TakesMemory m (read_policy s) → IsLawful m (read_policy s)
reads_policy m s takes = (
  None,
  moved_on m s (after_policy takes.0 (length m.deeds) (policy_after m.deeds takes.0.profile)),
  (takes.0, takes.1, refl),
)

pub publishes : (m : Machine) (deeds : List Deed) → TakesMemory m (publish deeds) → IsLawful m (publish deeds)
publishes m deeds takes = (None, with_deeds m (m.deeds ++ deeds), (takes.0, takes.1, refl))

-- an event that isn't an answer only moves the machine
moves : (m : Machine) (event : Event) → ((s : ℕ) → event ≡ answer s → ⊥) → (told : Option Answer) (new : Machine) → Takes m event told new
    → Moves m event new
moves m event no_answer None new takes = takes
moves m event no_answer (Some told) new takes = absurd (no_answer takes.0 takes.1)

pub reads_cell : (m : Machine) (s : ℕ) → IsLawful m (read_cell s) → TakesMemory m (read_cell s)
reads_cell m s (told, new, takes) =
    let (p, w, place, word, next, at, stands, may, is) = moves m (read_cell s) (λ r e. cc e) told new takes in (p, w, place, at)

is_ok_of : (outcome made : Changed) → outcome ≡ made → IsOk made → IsOk outcome
is_ok_of outcome made is ok = subst (λ (c : Changed). IsOk c) (sym is) ok

pub opens_change : (m : Machine) (change : Change) → IsLawful m (open_change change) → TakesMemory m (open_change change)
opens_change m change (told, new, takes) =
    let (plan, shut, planned, (t, made, encodes), is) = moves m (open_change change) (λ r e. cc e) told new takes in
    (shut, is_ok_of (tree_after m.capacity (m.keeper.history ++ change ∷ [])) _ made refl)
