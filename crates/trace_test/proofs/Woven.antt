-- Scripts in which each command is followed by an expectation of its own answer.
use Rattle.std.proofs.Common.{◌≡◌, ℕ, ◌+◌, Bool, true, false, ◌&&◌, List, [], ◌∷◌, ◌++◌, length, Option, Some, refl, ap, ◌∙◌, suc}
use Rattle.std.specs.List.{list_all}
use Rattle.glob_automaton.specs.Automata.{StateLimit}
use Rattle.mediation.specs.History.{History}
use Rattle.trace_script.specs.RunOutput.{Printed}
use Rattle.trace_test.specs.Laws.{answer_lines, woven}
use Rattle.trace_test.specs.Expectations.{Event, answer_of, compared, Expectation, Last, nothing, answer, answered, events_to}
use Rattle.trace_test.specs.Expectations.{expectations_in, holds, last_of, once_compared, refuses, text_of, unexpected}
use Rattle.test_script.specs.TestScript.{Asked, TestCommand}
use Rattle.trace_test.proofs.Matches.{own_answer}

module _ (limit : StateLimit) where
  abbrev script : History → ℕ → List Asked → List TestCommand
  script history number cs = woven number cs (answer_lines limit history cs)

  abbrev told : History → ℕ → Last → List Asked → List Expectation
  told history number last cs = expectations_in (events_to unexpected limit history last (script history number cs))

  abbrev own : ℕ → List ℕ → Expectation
  own number text = record { number = number; expected = Some text; got = Some text }

  -- the expectation of an answer, whether or not it refuses a policy
  module _ (p : Printed) (number : ℕ) (cs : List Asked) where
    by_refusal : (b : Bool) → compared (record { number = number + 1; expected = Some p.text; got = text_of (last_of number p.text b) })
        ∷ events_to unexpected limit p.history (once_compared (last_of number p.text b)) (script p.history (number + 2) cs)
        ≡ compared (own (number + 1) p.text) ∷ events_to unexpected limit p.history (answer p.text) (script p.history (number + 2) cs)
    by_refusal true = refl
    by_refusal false = refl

  told_next : (history : History) (number : ℕ) (last : Last) (c : Asked) (cs : List Asked) → unexpected last ≡ [] →
      told history number last (c ∷ cs)
      ≡ own (number + 1) (answered limit history c).text
      ∷ told (answered limit history c).history (number + 2) (answer (answered limit history c).text) cs
  told_next history number last c cs quiet =
      let p = answered limit history c in
      let F : List Event → List Event → List Expectation = λ (before : List Event) (es : List Event). expectations_in
      (before ++ answer_of number p.text ∷ es) in
      ap (λ (before : List Event). F before (compared (record {
        number = number + 1;
        expected = Some p.text;
        got = text_of (last_of number p.text (refuses limit c));
      }) ∷ events_to unexpected limit p.history (once_compared (last_of number p.text (refuses limit c)))
      (script p.history (number + 2) cs))) quiet
      ∙ ap (F []) (by_refusal p number cs (refuses limit c))

  pub woven_count : (history : History) (number : ℕ) (last : Last) (cs : List Asked) → unexpected last ≡ [] →
      length (told history number last cs) ≡ length cs
  woven_count history number last [] quiet = ap (λ (es : List Event). length (expectations_in es)) quiet
  woven_count history number last (c ∷ cs) quiet =
      let p = answered limit history c in
      ap length (told_next history number last c cs quiet) ∙ ap suc (woven_count p.history (number + 2) (answer p.text) cs refl)

  pub woven_hold : (history : History) (number : ℕ) (last : Last) (cs : List Asked) → unexpected last ≡ [] →
      list_all holds (told history number last cs) ≡ true
  woven_hold history number last [] quiet = ap (λ (es : List Event). list_all holds (expectations_in es)) quiet
  woven_hold history number last (c ∷ cs) quiet =
      let p = answered limit history c in
      ap (list_all holds) (told_next history number last c cs quiet)
      ∙ ap (λ b. b && list_all holds (told p.history (number + 2) (answer p.text) cs)) (own_answer p.text)
      ∙ woven_hold p.history (number + 2) (answer p.text) cs refl
