-- Runs of one more event, and what each legal step keeps holds after a run.
use Rattle.std.proofs.Common.{ℕ, List, [], ◌∷◌, ◌++◌, Option, sym, refl, ap, ◌∙◌, subst, append_assoc, append-nil}
use Rattle.justification.specs.declared.answer.Answer.{Answer}
use Rattle.event_machine.specs.Machine.{Event, Machine, first}
use Rattle.event_machine.specs.Takes.{Takes}
use Rattle.event_machine.specs.Runs.{told_by, Runs, Legal}
use Rattle.event_machine.specs.Rule.{KeepsRule}
use Rattle.event_machine.specs.laws.Ruled.{first_kept, takes_keep}

pub run_snoc : (from : Machine) (events : List Event) (answers : List (ℕ × Answer)) (m : Machine) (event : Event) (told : Option Answer)
    (new : Machine)
    → Runs from events answers m → Takes m event told new → Runs from (events ++ event ∷ []) (answers ++ told_by event told) new
run_snoc from [] answers m event told new (none, same) takes = (
  told,
  new,
  [],
  subst (λ (z : Machine). Takes z event told new) same takes,
  (refl, refl),
  ap (λ (a : List (ℕ × Answer)). a
      ++ told_by event told) none ∙ sym (append-nil (told_by event told)),
)
run_snoc from (e ∷ es) answers m event told new (told', between, later, takes', runs, is) takes = (
  told',
  between,
  later ++ told_by event told,
  takes',
  run_snoc between es later m event told new runs takes,
  ap (λ (a : List (ℕ × Answer)). a ++ told_by event told) is ∙ append_assoc (told_by e told') later (told_by event told),
)

-- what holds at first, and is kept by each legal step that goes on a legal run, holds after each legal run
pub by_steps : (capacity : ℕ) (P : List Event → Machine → Type 0)
    → ((events : List Event) (answers : List (ℕ × Answer)) (m : Machine) (event : Event) (told : Option Answer) (new : Machine) →
    Legal capacity events answers m → KeepsRule m → P events m → Takes m event told new → P (events ++ event ∷ []) new)
    → (before : List Event) (said : List (ℕ × Answer)) (from : Machine) (events : List Event) (answers : List (ℕ × Answer)) (to : Machine)
    → Legal capacity before said from → KeepsRule from → P before from → Runs from events answers to →
    KeepsRule to × P (before ++ events) to
by_steps capacity P step before said from [] answers to legal rule held (none, same) = (
  subst KeepsRule (sym same) rule,
  subst (λ (m : Machine). P (before ++ []) m) (sym same)
      (subst (λ (es : List Event). P es from) (sym (append-nil before)) held),
)
by_steps capacity P step before said from (e ∷ es) answers to legal rule held (told, between, later, takes, runs, is) =
    let t = by_steps capacity P step (before ++ e ∷ []) (said ++ told_by e told) between es later to
    (run_snoc (first capacity) before said from e told between legal takes) (takes_keep from between e told rule takes)
    (step before said from e told between legal rule held takes) runs in
    (t.0, subst (λ (all : List Event). P all to) (append_assoc before (e ∷ []) es) t.1)

pub rule_kept : (capacity : ℕ) (events : List Event) (answers : List (ℕ × Answer)) (m : Machine) → Legal capacity events answers m →
    KeepsRule m
rule_kept capacity events answers m legal =
    (by_steps capacity (λ es z. Unit {0}) (λ es said z e t n l r h k. tt) [] [] (first capacity) events answers m (refl, refl)
    (first_kept capacity) tt legal).0

-- one run after another is a run
pub runs_on : (from : Machine) (events more_events : List Event) (answers more : List (ℕ × Answer)) (m to : Machine) →
    Runs from events answers m → Runs m more_events more to → Runs from (events ++ more_events) (answers ++ more) to
runs_on from [] more_events answers more m to (none, same) runs =
    subst (λ (a : List (ℕ × Answer)). Runs from more_events a to) (ap (λ (a : List (ℕ × Answer)). a ++ more) (sym none))
    (subst (λ (z : Machine). Runs z more_events more to) same runs)
runs_on from (e ∷ es) more_events answers more m to (told, between, later, takes, first_runs, is) runs = (
  told,
  between,
  later ++ more,
  takes,
  runs_on between es more_events later more m to first_runs runs,
  ap (λ (a : List (ℕ × Answer)). a ++ more) is ∙ append_assoc (told_by e told) later more,
)

-- and it holds after each run that begins where it holds
pub runs_keep : (from : Machine) (events : List Event) (answers : List (ℕ × Answer)) (to : Machine) → KeepsRule from →
    Runs from events answers to → KeepsRule to
runs_keep from [] answers to rule (none, same) = subst KeepsRule (sym same) rule
runs_keep from (e ∷ es) answers to rule (told, between, later, takes, runs, is) = runs_keep between es later to
    (takes_keep from between e told rule takes) runs
