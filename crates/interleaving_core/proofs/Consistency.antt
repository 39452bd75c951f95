-- The machine's parts are consistent after each step.
use Rattle.std.proofs.Common.{◌≡◌, ℕ, ◌<◌, ◌≤◌, List, [], Some, None, Option, sym, ◌∙◌, subst}
use Rattle.std.specs.Prelude.{Result, Ok, Err, OnOk, OnErr, IfOk, IfErr}
use Rattle.mediation.specs.Deeds.{Deed}
use Rattle.justification.specs.declared.answer.Answer.{Answer}
use Rattle.row_rule.specs.declared.view.KeeperView.{KeeperView}
use Rattle.event_machine.specs.declared.event.StepFault.{StepFault}
use Rattle.event_machine.specs.declared.event.StepFault.TheVariants.{NotNow, NoMemory}
use Rattle.event_machine.specs.Machine.{Event, Session, Machine}
use Rattle.event_machine.specs.Takes.{Takes}
use Rattle.event_machine.specs.Runs.{Runs}
use Rattle.event_machine.specs.Lawful.{IsLawful, HasTurn, TakesMemory, cell_reads}
use Rattle.event_machine.specs.Rule.{KeepsRule}
use Rattle.interleaving_core.specs.Table.{session_in}
use Rattle.interleaving_core.specs.Parts.{Parts, machine_of}
use Rattle.interleaving_core.specs.inner.Consistency.{parts_in, IsStanding}
use Rattle.interleaving_core.specs.inner.EventSteps.{IsStep, silent_of}
use Rattle.interleaving_core.proofs.Steps.{with_all}

-- the views of a keeper and of the sessions
abbrev pub Row : Type 0
Row = ℕ × KeeperView

abbrev pub Table : Type 0
Table = ℕ × List (ℕ × (ℕ × Session))

abbrev pub Made : Row → List Deed → Table → Machine
Made k d t = machine_of (parts_in k d t)

-- what the laws of legal steps say
abbrev pub StepsKeep : Type 0
StepsKeep = (old : Machine) (event : Event) (told : Option Answer) (new : Machine) → KeepsRule old → Takes old event told new →
    KeepsRule new

abbrev pub RunsKeep : Type 0
RunsKeep = (from : Machine) (events : List Event) (answers : List (ℕ × Answer)) (to : Machine) → KeepsRule from →
    Runs from events answers to → KeepsRule to

pub sessions_stay : (k : Row) (d : List Deed) (t u : Table) → IsStanding k d t → u.0 ≡ t.0 → session_in u ≡ session_in t → IsStanding k d u
sessions_stay k d t u stands room same = record {
  one_capacity = stands.one_capacity ∙ sym room;
  keeps = subst (λ (f : ℕ → Session). KeepsRule (with_all (Made k d t) f)) (sym same) stands.keeps;
}

pub sessions_step : StepsKeep → (k : Row) (d : List Deed) (t u : Table) (event : Event) (told : Option Answer) → IsStanding k d t →
    u.0 ≡ t.0 → Takes (Made k d t) event told (Made k d u) → IsStanding k d u
sessions_step keep k d t u event told stands room takes = record {
  one_capacity = stands.one_capacity ∙ sym room;
  keeps = keep (Made k d t) event told (Made k d u) stands.keeps takes;
}

pub sessions_run : RunsKeep → (k : Row) (d : List Deed) (t u : Table) (events : List Event) → IsStanding k d t → u.0 ≡ t.0 →
    Runs (Made k d t) events [] (Made k d u) → IsStanding k d u
sessions_run keep k d t u events stands room runs = record {
  one_capacity = stands.one_capacity ∙ sym room;
  keeps = keep (Made k d t) events [] (Made k d u) stands.keeps runs;
}

pub keeper_stays : (k l : Row) (d : List Deed) (t : Table) → IsStanding k d t → l ≡ k → IsStanding l d t
keeper_stays k l d t stands same = subst (λ (z : Row). IsStanding z d t) (sym same) stands

pub keeper_steps : StepsKeep → (k l : Row) (d : List Deed) (t : Table) (event : Event) → IsStanding k d t → l.0 ≡ k.0 →
    Takes (Made k d t) event None (Made l d t) → IsStanding l d t
keeper_steps keep k l d t event stands room takes = record {
  one_capacity = room ∙ stands.one_capacity;
  keeps = keep (Made k d t) event None (Made l d t) stands.keeps takes;
}

-- The outcome of a step of one part is that of the machine's step, stated for the parts as they were seen before it.
pub stepped : {A : Type 0} (before was : Parts) (event : Event) (new : Machine) → was ≡ before
    → (result : Result A StepFault) → OnOk result (Takes (machine_of was) event None new) → OnErr result (new ≡ machine_of was)
    → IfErr result (λ fault. fault ≡ NotNow → ¬ (IsLawful (machine_of was) event)) →
    IfErr result (λ fault. fault ≡ NotNow → ¬ (HasTurn (machine_of was) event)) →
    IfErr result (λ fault. fault ≡ NoMemory → TakesMemory (machine_of was) event)
    → IsStep (machine_of before) event (silent_of result) new
stepped before was event new seen (Ok done) takes same unlawful no_turn memory =
    subst (λ (p : Parts). IsStep (machine_of p) event (Ok None) new) seen record {
      ok = takes;
      same = tt;
      not_now = tt;
      turn = tt;
      memory = tt;
    }
stepped before was event new seen (Err fault) takes same unlawful no_turn memory =
    subst (λ (p : Parts). IsStep (machine_of p) event (Err fault) new) seen record {
      ok = tt;
      same = same;
      not_now =
          unlawful;
      turn = no_turn;
      memory = memory;
    }

not_both : (fault : StepFault) → fault ≡ NotNow → fault ≡ NoMemory → ⊥
not_both fault now memory = absurd (cc (now, memory))

-- a fault that is always `NotNow` is never `NoMemory`
pub never_memory : {A : Type 0} (P : Type 0) (result : Result A StepFault) → IfErr result (λ fault. fault ≡ NotNow) →
    IfErr result (λ fault. fault ≡ NoMemory → P)
never_memory P (Ok done) now = tt
never_memory P (Err fault) now = λ memory. absurd (not_both fault now memory)

pub told : (before was : Parts) (event : Event) (answer : Answer) (new : Machine) → was ≡ before → Takes (machine_of was) event
    (Some answer) new → IsStep (machine_of before) event (Ok (Some answer)) new
told before was event answer new seen takes =
    subst (λ (p : Parts). IsStep (machine_of p) event (Ok (Some answer)) new) seen record {
      ok = takes;
      same =
          tt;
      not_now = tt;
      turn = tt;
      memory = tt;
    }

pub done : (before was : Parts) (event : Event) (new : Machine) → was ≡ before → Takes (machine_of was) event None new →
    IsStep (machine_of before) event (Ok None) new
done before was event new seen takes =
    subst (λ (p : Parts). IsStep (machine_of p) event (Ok None) new) seen record {
      ok = takes;
      same = tt;
      not_now = tt;
      turn = tt;
      memory = tt;
    }

pub refused : (before was : Parts) (event : Event) (fault : StepFault) (new : Machine) → was ≡ before → new ≡ machine_of was
    → (fault ≡ NotNow → ¬ (IsLawful (machine_of was) event)) → (fault ≡ NotNow → ¬ (HasTurn (machine_of was) event))
    → fault ≡ NotNow → IsStep (machine_of before) event (Err fault) new
refused before was event fault new seen same unlawful no_turn now =
    subst (λ (p : Parts). IsStep (machine_of p) event (Err fault) new) seen record {
      ok = tt;
      same = same;
      not_now =
          unlawful;
      turn = no_turn;
      memory = λ memory. absurd (not_both fault now memory);
    }

-- and the sessions are consistent with the others, whether one took a step or not
pub sessions_stand : {A : Type 0} → StepsKeep → (k : Row) (d : List Deed) (t u : Table) (event : Event) (result : Result A StepFault) →
    IsStanding k d t → u.0 ≡ t.0
    → OnOk result (Takes (Made k d t) event None (Made k d u)) → OnErr result (session_in u ≡ session_in t) → IsStanding k d u
sessions_stand keep k d t u event (Ok done) stands room takes same = sessions_step keep k d t u event None stands room takes
sessions_stand keep k d t u event (Err fault) stands room takes same = sessions_stay k d t u stands room same

pub keeper_stands : {A E : Type 0} → StepsKeep → (k l : Row) (d : List Deed) (t : Table) (event : Event) (result : Result A E) →
    IsStanding k d t → l.0 ≡ k.0
    → OnOk result (Takes (Made k d t) event None (Made l d t)) → OnErr result (l ≡ k) → IsStanding l d t
keeper_stands keep k l d t event (Ok done) stands room takes same = keeper_steps keep k l d t event stands room takes
keeper_stands keep k l d t event (Err fault) stands room takes same = keeper_stays k l d t stands same

pub sessions_answer : StepsKeep → (k : Row) (d : List Deed) (t u : Table) (event : Event) (result : Result Answer StepFault) →
    IsStanding k d t → u.0 ≡ t.0
    → IfOk result (λ told. Takes (Made k d t) event (Some told) (Made k d u)) →
    IfErr result (λ fault. (fault ≡ NotNow) × (session_in u ≡ session_in t)) → IsStanding k d u
sessions_answer keep k d t u event (Ok told) stands room takes same = sessions_step keep k d t u event (Some told) stands room takes
sessions_answer keep k d t u event (Err fault) stands room takes same = sessions_stay k d t u stands room same.1

pub turned_away : {A : Type 0} (m : Machine) (event : Event) (May : Type 0) (result : Result A StepFault) → (¬ May → ¬ (IsLawful m event))
    → IfErr result (λ fault. fault ≡ NotNow → ¬ May) → IfErr result (λ fault. fault ≡ NotNow → ¬ (IsLawful m event))
turned_away m event May (Ok done) unlawful none = tt
turned_away m event May (Err fault) unlawful none = λ now. unlawful (none now)

-- no event of the keeper is a session's turn
pub never_a_turn : {A : Type 0} (result : Result A StepFault) → IfErr result (λ fault. fault ≡ NotNow → ¬ ⊥)
never_a_turn (Ok done) = tt
never_a_turn (Err fault) = λ now turn. turn

-- up to `most` readings of a cell
pub sessions_read : RunsKeep → (k : Row) (d : List Deed) (t u : Table) (s most : ℕ) (result : Result ℕ StepFault) →
    IsStanding k d t → u.0 ≡ t.0
    → IfOk result (λ count. (count ≤ most) × Runs (Made k d t) (cell_reads s count) [] (Made k d u))
    → IfErr result (λ fault. (fault ≡ NoMemory) × ((count : ℕ) × (count < most) × Runs (Made k d t) (cell_reads s count) [] (Made k d u)))
    → IsStanding k d u
sessions_read keep k d t u s most (Ok count) stands room done short = sessions_run keep k d t u (cell_reads s count) stands room done.1
sessions_read keep k d t u s most (Err fault) stands room done short = sessions_run keep k d t u (cell_reads s short.1.0)
    stands room short.1.2
