-- Each answer in the list of a run's answers was given by one of its events, after the events that gave the earlier answers.
use Rattle.std.proofs.Common.{◌≡◌, ℕ, List, [], ◌∷◌, ◌++◌, Some, None, Option, sym, refl, ap, ◌∙◌, subst}
use Rattle.justification.specs.declared.answer.Answer.{Answer}
use Rattle.event_machine.specs.Machine.{Event, Machine}
use Rattle.event_machine.specs.Machine.Event.{begin, read_policy, read_count, read_cell, check_count, answer, open_change, set_cell}
use Rattle.event_machine.specs.Machine.Event.{close_change, publish}
use Rattle.event_machine.specs.Takes.{Answers, Takes}
use Rattle.event_machine.specs.Runs.{told_by, Runs}
use Rattle.interleaving_core.specs.Runs.{IsGiven}

abbrev Told : Type 0
Told = List (ℕ × Answer)

no_cons : {A : Type 0} (x : A) (xs : List A) → [] ≡ x ∷ xs → ⊥
no_cons {A} x xs h = subst (λ (l : List A). elim l as (λ _. Type 0) [ [] ↦ Unit {0} | y ∷ ys ↦ ⊥ ]) h tt

none_before : {A : Type 0} (x : A) (before after : List A) → [] ≡ before ++ x ∷ after → ⊥
none_before x [] after h = no_cons x after h
none_before x (y ∷ ys) after h = no_cons y (ys ++ x ∷ after) h

head_is : {A : Type 0} (x y : A) (xs ys : List A) → x ∷ xs ≡ y ∷ ys → x ≡ y
head_is {A} x y xs ys h = ap (λ (l : List A). elim l [ [] ↦ x | z ∷ zs ↦ z ]) h

tail_is : {A : Type 0} (x y : A) (xs ys : List A) → x ∷ xs ≡ y ∷ ys → xs ≡ ys
tail_is {A} x y xs ys h = ap (λ (l : List A). elim l [ [] ↦ xs | z ∷ zs ↦ zs ]) h

abbrev Pair : ℕ → Answer → ℕ × Answer
Pair s told = (s, told)

silent : (e : Event) → told_by e None ≡ []
silent (answer s) = refl
silent (begin s call) = refl
silent (read_policy s) = refl
silent (read_count s) = refl
silent (read_cell s) = refl
silent (check_count s) = refl
silent (open_change change) = refl
silent set_cell = refl
silent close_change = refl
silent (publish deeds) = refl

-- the first event gives it
here : (from between : Machine) (s : ℕ) (told : Answer) (es : List Event) → Answers from s told between →
    IsGiven from (answer s ∷ es) [] s told
here from between s told es answers = record {
  earlier = [];
  later = es;
  parts = refl;
  machine = from;
  runs = (refl, refl);
  next = between;
  gives = (s, refl, answers);
}

-- an event after the first one gives it
behind : (from between : Machine) (e : Event) (o : Option Answer) (es : List Event) (rest : Told) (s : ℕ) (told : Answer) →
    Takes from e o between → IsGiven between es rest s told → IsGiven from (e ∷ es) (told_by e o ++ rest) s told
behind from between e o es rest s told takes given = record {
  earlier = e ∷ given.earlier;
  later = given.later;
  parts = ap (λ (xs : List Event). e ∷ xs) given.parts;
  machine = given.machine;
  runs = (o, between, rest, takes, given.runs, refl);
  next = given.next;
  gives = given.gives;
}

-- the first event answers, with this answer or another
told_at : (from between : Machine) (e : Event) (es : List Event) (a : Answer) (r : ℕ) (before after later : Told) (s : ℕ) (told : Answer) →
    Answers from r a between → e ≡ answer r
    → (r, a) ∷ later ≡ before ++ (s, told) ∷ after → ((rest : Told) → later ≡ rest ++ (s, told) ∷ after → IsGiven between es rest s told) →
    IsGiven from (e ∷ es) before s told
told_at from between e es a r [] after later s told answers which is on =
    let same : Pair r a ≡ Pair s told = head_is (r, a) (s, told) later after is in
    subst (λ (x : Event). IsGiven from (x ∷ es) [] s told) (sym which)
    (subst (λ (p : ℕ × Answer). IsGiven from (answer r ∷ es) [] p.0 p.1) same (here from between r a es answers))
told_at from between e es a r (x ∷ xs) after later s told answers which is on =
    let first : told_by e (Some a) ++ xs ≡ x ∷ xs = ap (λ (y : Event). told_by y (Some a) ++ xs) which ∙ ap (λ (p : ℕ × Answer). p ∷ xs)
    (head_is (r, a) x later (xs ++ (s, told) ∷ after) is) in
    subst (λ (l : Told). IsGiven from (e ∷ es) l s told) first
    (behind from between e (Some a) es xs s told (r, which, answers) (on xs (tail_is (r, a) x later (xs ++ (s, told) ∷ after) is)))

by_event : (from between : Machine) (e : Event) (es : List Event) (o : Option Answer) (before after later : Told) (s : ℕ) (told : Answer) →
    Takes from e o between → told_by e o ++ later ≡ before ++ (s, told) ∷ after
    → ((rest : Told) → later ≡ rest ++ (s, told) ∷ after → IsGiven between es rest s told) → IsGiven from (e ∷ es) before s told
by_event from between e es None before after later s told takes is on =
    subst (λ (l : Told). IsGiven from (e ∷ es) l s told) (ap (λ (l : Told). l ++ before) (silent e))
    (behind from between e None es before s told takes (on before (sym (ap (λ (l : Told). l ++ later) (silent e)) ∙ is)))
by_event from between e es (Some a) before after later s told (r, which, answers) is on =
    told_at from between e es a r before after later s told answers which
    (ap (λ (x : Event). told_by x (Some a) ++ later) (sym which) ∙ is) on

pub given_at : (from : Machine) (events : List Event) (answers before after : Told) (to : Machine) (s : ℕ) (told : Answer) →
    Runs from events answers to → answers ≡ before ++ (s, told) ∷ after → IsGiven from events before s told
given_at from [] answers before after to s told (none, same) is = absurd (none_before (s, told) before after (sym none ∙ is))
given_at from (e ∷ es) answers before after to s told (o, between, later, takes, runs, parts) is =
    by_event from between e es o before after later s told takes (sym parts ∙ is)
    (λ rest at. given_at between es later rest after to s told runs at)
