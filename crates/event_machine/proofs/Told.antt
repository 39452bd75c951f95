-- Each answer in the list of a legal run's answers was given by a step after a legal run of the events before it.
use Rattle.std.proofs.Common.{◌≡◌, ℕ, List, [], ◌∷◌, ◌++◌, Some, None, Option, sym, refl, ap, ◌∙◌, subst, append_assoc}
use Rattle.justification.specs.declared.answer.Answer.{Answer}
use Rattle.event_machine.specs.Machine.{Event, Machine, first}
use Rattle.event_machine.specs.Machine.Event.{begin, read_policy, read_count, read_cell, check_count, answer, open_change, set_cell}
use Rattle.event_machine.specs.Machine.Event.{close_change, publish}
use Rattle.event_machine.specs.Takes.{Answers, Takes}
use Rattle.event_machine.specs.Runs.{told_by, Runs, Legal}
use Rattle.event_machine.specs.Right.{IsToldIn}
use Rattle.event_machine.specs.laws.Runs.{run_snoc}
use Rattle.event_machine.proofs.Rightly.{all_right}

no_cons : {A : Type 0} (x : A) (xs : List A) → [] ≡ x ∷ xs → ⊥
no_cons {A} x xs h = subst (λ (l : List A). elim l as (λ _. Type 0) [ [] ↦ Unit {0} | y ∷ ys ↦ ⊥ ]) h tt

head_is : {A : Type 0} (x y : A) (xs ys : List A) → x ∷ xs ≡ y ∷ ys → x ≡ y
head_is {A} x y xs ys h = ap (λ (l : List A). elim l [ [] ↦ x | z ∷ zs ↦ z ]) h

tail_is : {A : Type 0} (x y : A) (xs ys : List A) → x ∷ xs ≡ y ∷ ys → xs ≡ ys
tail_is {A} x y xs ys h = ap (λ (l : List A). elim l [ [] ↦ xs | z ∷ zs ↦ zs ]) h

none_before : {A : Type 0} (x : A) (before after : List A) → [] ≡ before ++ x ∷ after → ⊥
none_before x [] after h = no_cons x after h
none_before x (y ∷ ys) after h = no_cons y (ys ++ x ∷ after) h

abbrev Pair : ℕ → Answer → ℕ × Answer
Pair s told = (s, told)

-- the answer of this event
here : (capacity : ℕ) (events : List Event) (said : List (ℕ × Answer)) (from between : Machine) (s : ℕ) (told : Answer) (es : List Event) →
    Legal capacity events said from → Answers from s told between → IsToldIn capacity (events ++ answer s ∷ es) s told
here capacity events said from between s told es legal answers = record {
  before = events;
  after = es;
  parts = refl;
  answers = said;
  machine = from;
  legal = legal;
  right = all_right capacity events said from s told between legal (s, refl, answers);
}

told_at : (capacity : ℕ) (events : List Event) (before after later : List (ℕ × Answer)) (s : ℕ) (told : Answer) (from between : Machine)
    (e : Event) (es : List Event) (said : List (ℕ × Answer)) (a : Answer) (r : ℕ)
    → Legal capacity events said from → Answers from r a between → e ≡ answer r → (r, a) ∷ later ≡ before ++ (s, told) ∷ after
    → ((rest : List (ℕ × Answer)) → later ≡ rest ++ (s, told) ∷ after → IsToldIn capacity (events ++ e ∷ es) s told) →
    IsToldIn capacity (events ++ e ∷ es) s told
told_at capacity events [] after later s told from between e es said a r legal answers which is on =
    let same : Pair r a ≡ Pair s told = head_is (r, a) (s, told) later after is in
    subst (λ (x : Event). IsToldIn capacity (events ++ x ∷ es) s told) (sym which)
    (subst (λ (p : ℕ × Answer). IsToldIn capacity (events ++ answer r ∷ es) p.0 p.1) same
    (here capacity events said from between r a es legal answers))
told_at capacity events (x ∷ xs) after later s told from between e es said a r legal answers which is on =
    on xs (tail_is (r, a) x later (xs ++ (s, told) ∷ after) is)

-- the first answer is of the first event, or a later one's
by_event : (capacity : ℕ) (events : List Event) (before after later : List (ℕ × Answer)) (s : ℕ) (told : Answer) (from between : Machine)
    (e : Event) (es : List Event) (said : List (ℕ × Answer)) (o : Option Answer)
    → Legal capacity events said from → Takes from e o between → told_by e o ++ later ≡ before ++ (s, told) ∷ after
    → ((rest : List (ℕ × Answer)) → later ≡ rest ++ (s, told) ∷ after → IsToldIn capacity (events ++ e ∷ es) s told) →
    IsToldIn capacity (events ++ e ∷ es) s told
by_event capacity events before after later s told from between e es said None legal moves is on =
    on before (sym (ap (λ (l : List (ℕ × Answer)). l ++ later) (silent e)) ∙ is) where
      silent : (e : Event) → told_by e None ≡ []
      silent (answer s) = refl
      silent (begin s call) = refl
      silent (read_policy s) = refl
      silent (read_count s) = refl
      silent (read_cell s) = refl
      silent (check_count s) = refl
      silent (open_change change) = refl
      silent set_cell = refl
      silent close_change = refl
      silent (publish deeds) = refl
by_event capacity events before after later s told from between e es said (Some a) legal (r, which, answers) is on =
    told_at capacity events before after later s told from between e es said a r legal answers which
    (ap (λ (x : Event). told_by x (Some a) ++ later) (sym which) ∙ is) on

pub told_right : (capacity : ℕ) (events : List Event) (said : List (ℕ × Answer)) (from : Machine) (more : List Event)
    (answers before after : List (ℕ × Answer)) (to : Machine) (s : ℕ) (told : Answer)
    → Legal capacity events said from → Runs from more answers to → answers ≡ before ++ (s, told) ∷ after →
    IsToldIn capacity (events ++ more) s told
told_right capacity events said from [] answers before after to s told legal (none, same) is =
    absurd (none_before (s, told) before after (sym none ∙ is))
told_right capacity events said from (e ∷ es) answers before after to s told legal (o, between, later, takes, runs, parts) is =
    by_event capacity events before after later s told from between e es said o legal takes (sym parts ∙ is) (λ rest at.
    subst (λ (all : List Event). IsToldIn capacity all s told) (append_assoc events (e ∷ []) es)
    (told_right capacity (events ++ e ∷ []) (said ++ told_by e o) between es later rest after to s told
    (run_snoc (first capacity) events said from e o between legal takes) runs at))
