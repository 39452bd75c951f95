-- When an answer of a legal run is right: it is justified by the tree's changes and the policy's up to then, at versions that were
-- current at an event of its own call.
use Rattle.std.specs.Prelude.{◌≡◌, ℕ, List, ◌∷◌, ◌++◌, length, None}
use Rattle.std.specs.List.{All}
use Rattle.justification.specs.declared.answer.Answer.{Answer}
use Rattle.justification.specs.declared.answer.Answer.TheVariants.{Judged, Failed, NoProfile, Busy, NoEntry}
use Rattle.justification.specs.Justified.{Justified}
use Rattle.row_rule.specs.Row.{count_of}
use Rattle.event_machine.specs.Machine.{Call, Event, Machine}
use Rattle.event_machine.specs.Machine.Event.{begin, read_policy, read_count, read_cell, check_count, answer, open_change, set_cell}
use Rattle.event_machine.specs.Machine.Event.{close_change, publish}
use Rattle.event_machine.specs.Runs.{Legal}

-- a session's event that begins a call
abbrev pub BeginsCall : ℕ → Event → Type 0
BeginsCall s (begin own call) = own ≡ s
BeginsCall s (read_policy own) = ⊥
BeginsCall s (read_count own) = ⊥
BeginsCall s (read_cell own) = ⊥
BeginsCall s (check_count own) = ⊥
BeginsCall s (answer own) = ⊥
BeginsCall s (open_change change) = ⊥
BeginsCall s set_cell = ⊥
BeginsCall s close_change = ⊥
BeginsCall s (publish deeds) = ⊥

-- The span of a session's call: the last event that begins one, and all events after it.
pub record Span (events : List Event) (s : ℕ) (call : Call) : Type 0 where
  pub before : List Event
  pub within : List Event
  pub parts : events ≡ before ++ begin s call ∷ within
  pub last : All (λ (event : Event). ¬ (BeginsCall s event)) within

-- This event happened in the span, and this held of the machine when it happened.
abbrev pub Happened : ℕ → {events : List Event} {s : ℕ} {call : Call} → Span events s call → Event → (Machine → Type 0) → Type 0
Happened capacity {s = s} {call = call} span event Stood =
    (front rest : List Event) × (answers : List (ℕ × Answer)) × (m : Machine) × (span.within ≡ front ++ event ∷ rest)
    × Legal capacity (span.before ++ begin s call ∷ front) answers m × Stood m

-- The version of the tree is the number of closed changes, with none open; the version of the policy is the number of published
-- ones.
abbrev pub IsTreeVersion : ℕ → Machine → Type 0
IsTreeVersion version m = (m.keeper.pending ≡ None) × (length m.keeper.history ≡ version)

abbrev pub IsPolicyVersion : ℕ → Machine → Type 0
IsPolicyVersion version m = length m.deeds ≡ version

abbrev pub IsCount : ℕ → Machine → Type 0
IsCount count m = count_of m.keeper ≡ count

-- The versions of an answer were current at exactly the events that read the count and the policy; the counts of a Busy answer are
-- those that were read. NoEntry is never answered.
abbrev pub IsOfSpan : ℕ → {events : List Event} (s : ℕ) {call : Call} → Span events s call → Answer → Type 0
IsOfSpan capacity s span (Judged verdict node tree policy) =
    Happened capacity span (read_count s) (IsTreeVersion tree) × Happened capacity span (read_policy s) (IsPolicyVersion policy)
IsOfSpan capacity s span (Failed errno tree) = Happened capacity span (read_count s) (IsTreeVersion tree)
IsOfSpan capacity s span (NoProfile policy) = Happened capacity span (read_policy s) (IsPolicyVersion policy)
IsOfSpan capacity s span (Busy began ended) =
    Happened capacity span (read_count s) (IsCount began) × Happened capacity span (check_count s) (IsCount ended)
IsOfSpan capacity s span NoEntry = ⊥

-- An answer of a session after these events, which lead to this machine.
pub record IsRight (capacity : ℕ) (events : List Event) (m : Machine) (s : ℕ) (told : Answer) : Type 0 where
  pub call : Call
  pub span : Span events s call
  pub justified : Justified call.profile call.path call.ask m.keeper.history m.deeds told
  pub of_span : IsOfSpan capacity s span told

-- One of these events gives the session this answer, and the answer is right where it is given.
pub record IsToldIn (capacity : ℕ) (events : List Event) (s : ℕ) (told : Answer) : Type 0 where
  pub before : List Event
  pub after : List Event
  pub parts : events ≡ before ++ answer s ∷ after
  pub answers : List (ℕ × Answer)
  pub machine : Machine
  pub legal : Legal capacity before answers machine
  pub right : IsRight capacity before machine s told
