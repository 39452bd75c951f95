-- Events of a list that pass one after the other.
use Rattle.std.proofs.Common.{◌≡◌, ℕ, ◌+◌, ◌<◌, List, [], ◌∷◌, ◌++◌, length, get_or, take, drop, Option, Some, sym, refl, ap, ◌∙◌, subst}
use Rattle.std.proofs.Common.{append_assoc, append-nil, add-one, drop-cons, inl, inr}
use Rattle.std.specs.Prelude.{map, Result, Ok, Err, OnErr}
use Rattle.std.proofs.lemmas.List.{take-append-drop, map-append, map_more}
use Rattle.justification.specs.declared.answer.Answer.{Answer}
use Rattle.event_machine.specs.Machine.{Event, Machine}
use Rattle.event_machine.specs.Machine.Event.{answer}
use Rattle.event_machine.specs.Takes.{Takes}
use Rattle.event_machine.specs.Lawful.{IsLawful}
use Rattle.event_machine.specs.Runs.{told_by, Runs, Legal}
use Rattle.event_machine.specs.Right.{IsRight}
use Rattle.event_machine.specs.declared.event.Event as code
use Rattle.event_machine.specs.Coded.{event_of}
use Rattle.interleaving_core.specs.Runs.{Passes, StopsAt, IsRun, IsCutShort}
use Rattle.interleaving_core.specs.inner.PassedEvents.{PassesBy}
use Rattle.interleaving_core.proofs.GivenAnswers.{given_at}

abbrev pub Told : Type 0
Told = List (ℕ × Answer)

-- one more event, which is taken
pub taken_more : (from : Machine) (events taken : List Event) (answers : Told) (m : Machine) (event : Event) (told : Option Answer)
    (new : Machine)
    → Passes from events taken answers m → Takes m event told new → Passes from (events ++ event ∷ []) (taken ++ event ∷ [])
    (answers ++ told_by event told) new
taken_more from [] taken answers m event told new (none, silent, same) takes = inl (
  told,
  new,
  [],
  [],
  subst (λ (z : Machine). Takes z event told new) same takes,
  (refl, refl, refl),
  ap (λ (es : List Event). es ++ event ∷ []) none,
  ap (λ (a : Told). a ++ told_by event told) silent ∙ sym (append-nil (told_by event told)),
)
taken_more from (e ∷ es) taken answers m event told new passes takes = elim passes [
  | inl (own, between, rest, later, step, on, taken_are, answers_are) ↦ inl (
    own,
    between,
    rest ++ event ∷ [],
    later ++ told_by event told,
    step,
    taken_more between es rest later m event told new on takes,
    ap (λ (xs : List Event). xs ++ event ∷ []) taken_are,
    ap (λ (a : Told). a ++ told_by event told) answers_are ∙ append_assoc (told_by e own) later (told_by event told),
  )
  | inr (unlawful, on) ↦ inr (unlawful, taken_more from es taken answers m event told new on takes)
]

-- one more event, which is passed over
pub over_more : (from : Machine) (events taken : List Event) (answers : Told) (m : Machine) (event : Event) →
    Passes from events taken answers m → ¬ (IsLawful m event) → Passes from (events ++ event ∷ []) taken answers m
over_more from [] taken answers m event (none, silent, same) unlawful =
    inr (subst (λ (z : Machine). ¬ (IsLawful z event)) same unlawful, (none, silent, same))
over_more from (e ∷ es) taken answers m event passes unlawful = elim passes [
  | inl (own, between, rest, later, step, on, taken_are, answers_are) ↦
      inl (own, between, rest, later, step, over_more between es rest later m event on unlawful, taken_are, answers_are)
  | inr (before, on) ↦ inr (before, over_more from es taken answers m event on unlawful)
]

-- one more event, whatever its outcome
pub passes_on : (from : Machine) (events taken : List Event) (answers more : Told) (m new : Machine) (event : Event) →
    Passes from events taken answers m → PassesBy m event answers new more
    → (all : List Event) × Passes from (events ++ event ∷ []) all more new
passes_on from events taken answers more m new event passes by = elim by [
  | inl (told, takes, is) ↦ (
    taken ++ event ∷ [],
    subst (λ (a : Told). Passes from (events ++ event ∷ []) (taken ++ event ∷ []) a new) (sym is)
        (taken_more from events taken answers m event told new passes takes),
  )
  | inr (unlawful, same, is) ↦ (
    taken,
    subst (λ (a : Told). Passes from (events ++ event ∷ []) taken a new) (sym is)
        (subst (λ (z : Machine). Passes from (events ++ event ∷ []) taken answers z) (sym same)
        (over_more from events taken answers m event passes unlawful)),
  )
]

drop_at : (events : List code.Event) (index : ℕ) (event : code.Event) → index < length events → drop index events
    ≡ get_or events index event ∷ drop (index + 1) events
drop_at events index event within = rw (add-one index) (drop-cons events index event within)

-- The events of a list in code: those before one of them, that one, and those after it.
pub coded_parts : (events : List code.Event) (index : ℕ) (event : code.Event) → index < length events
    → map event_of events ≡ map event_of (take index events) ++ event_of (get_or events index event) ∷ map event_of
    (drop (index + 1) events)
coded_parts events index event within =
    let whole : events ≡ take index events ++ get_or events index event ∷ drop (index + 1) events =
    sym (take-append-drop index events) ∙ ap (λ (rest : List code.Event). take index events ++ rest) (drop_at events index event within) in
    ap (map event_of) whole ∙ map-append event_of (take index events) (get_or events index event ∷ drop (index + 1) events)

-- the same for the current event of a loop
pub passes_more : (from : Machine) (events : List code.Event) (index : ℕ) (item : code.Event) (taken : List Event) (answers more : Told)
    (m new : Machine) → index < length events → item ≡ get_or events index item
    → Passes from (map event_of (take index events)) taken answers m → PassesBy m (event_of item) answers new more → (all : List Event)
    × Passes from (map event_of (take (index + 1) events)) all more new
passes_more from events index item taken answers more m new within is passes by =
    let reached : map event_of (take (index + 1) events) ≡ map event_of (take index events) ++ event_of item ∷ [] =
    map_more event_of events index item within ∙ ap (λ (e : code.Event). map event_of (take index events) ++ event_of e ∷ []) (sym is) in
    subst (λ (es : List Event). (all : List Event) × Passes from es all more new) (sym reached)
    (passes_on from (map event_of (take index events)) taken answers more m new (event_of item) passes by)

-- memory was refused at the current event of a loop
pub short_at : (from : Machine) (events : List code.Event) (index : ℕ) (item : code.Event) (taken : List Event) (answers : Told)
    (m new : Machine) → index < length events → item ≡ get_or events index item
    → Passes from (map event_of (take index events)) taken answers m →
    StopsAt m (event_of item) new → IsCutShort from (map event_of events) new
short_at from events index item taken answers m new within is passes stops = record {
  passed = map event_of (take index events);
  event = event_of item;
  left = map event_of (drop (index + 1) events);
  parts = coded_parts events index item within ∙ ap (λ (e : code.Event). map event_of (take index events)
      ++ event_of e ∷ map event_of (drop (index + 1) events)) (sym is);
  taken = taken;
  answers = answers;
  between = m;
  passes = passes;
  stops = stops;
}

pub on_err_of : {A B : Type 0} {P : Type 0} (r : Result A B) → P → OnErr r P
on_err_of (Ok done) p = tt
on_err_of (Err fault) p = p

-- the events that were taken are a run
pub passed_runs : (from : Machine) (events taken : List Event) (answers : Told) (to : Machine) → Passes from events taken answers to →
    Runs from taken answers to
passed_runs from [] taken answers to (none, silent, same) = subst (λ (es : List Event). Runs from es answers to) (sym none) (silent, same)
passed_runs from (e ∷ es) taken answers to passes = elim passes [
  | inl (own, between, rest, later, step, on, taken_are, answers_are) ↦
      subst (λ (xs : List Event). Runs from xs answers to) (sym taken_are)
      (own, between, later, step, passed_runs between es rest later to on, answers_are)
  | inr (unlawful, on) ↦ passed_runs from es taken answers to on
]

-- what the laws of legal runs say
abbrev pub GoesOn : Type 0
GoesOn = (capacity : ℕ) (events later : List Event) (answers more : Told) (m to : Machine) → Legal capacity events answers m →
    Runs m later more to → Legal capacity (events ++ later) (answers ++ more) to

abbrev pub AreRight : Type 0
AreRight = (capacity : ℕ) (events : List Event) (answers : Told) (m : Machine) (s : ℕ) (told : Answer) (new : Machine)
    → Legal capacity events answers m → Takes m (answer s) (Some told) new → IsRight capacity events m s told

pub is_run : GoesOn → AreRight → (old : Machine) (events taken : List Event) (answers : Told) (new : Machine) →
    Passes old events taken answers new → IsRun old events answers new
is_run on are_right old events taken answers new passes =
    let runs = passed_runs old events taken answers new passes in
    record {
      taken = taken;
      passed = passes;
      legal = runs;
      right = λ capacity ago said legal before after s told is.
          let given = given_at old taken answers before after new s told runs is in (
            given,
            are_right capacity (ago ++ given.earlier) (said ++ before) given.machine s told given.next
                (on capacity ago given.earlier said before old given.machine legal given.runs) given.gives,
          );
    }
