-- What the engine of a test prints and counts, by its events, and how a test ends.
use Rattle.std.proofs.Common.{◌≡◌, ℕ, ◌+◌, ◌==◌, ◌&&◌, ◌<◌, ◌≤◌, Bool, true, false, cond, List, [], ◌∷◌, ◌++◌, length}
use Rattle.std.proofs.Common.{take, Option, Some, None, Ok, Err, refl, sym, ap, ◌∙◌, arith, inl, inr, append-nil, append_assoc}
use Rattle.std.proofs.Common.{take-append-drop, drop, take_all, subst, eq-eqb, zero-add}
use Rattle.std.specs.Prelude.{count_by, if◌then◌else◌}
use Rattle.std.specs.List.{list_all}
use Rattle.std.specs.Io.KnownBytes.{Appends}
use Rattle.std.proofs.lemmas.Bool.{ne_eqb}
use Rattle.std.proofs.lemmas.List.{drop_all}
use Rattle.std.proofs.lemmas.List.Concat.{flat_map-append}
use Rattle.std.proofs.lemmas.List.Sums.{count_by-le-length, sum_by-cons}
use Rattle.glob_automaton.specs.Automata.{StateLimit}
use Rattle.mediation.specs.History.{History}
use Rattle.trace_report.specs.declared.status.Status.{Status}
use Rattle.trace_report.specs.declared.status.Status.TheVariants.{Done, Unmet, Refused}
use Rattle.trace_report.specs.Output.{line}
use Rattle.trace_report.specs.Streams.{AppendsFront, IsTold, IsWritten, Streams, streams}
use Rattle.trace_report.specs.laws.Endings.{appends_nothing}
use Rattle.trace_script.specs.declared.stop.Stop.{Stop}
use Rattle.trace_script.specs.declared.stop.Stop.TheVariants.{NoCommand, Input, TooLong, Memory, Output}
use Rattle.trace_script.specs.Engine.{IsPut, stop_status, stop_text}
use Rattle.trace_script.specs.RunOutput.{Printed, text_of_lines}
use Rattle.trace_script.specs.laws.Exact.{IsFollowedBy, IsShortBy, lines_by, lines_by-append, state_by}
use Rattle.trace_script.specs.laws.FollowedScripts.{front_more, text_of_lines-append, wrote_more}
use Rattle.trace_test.specs.declared.options.TestOptions.{TestOptions}
use Rattle.trace_test.specs.Expectations.{Event, answer_of, compared, Expectation, Last, nothing, answer, refusal, answered, events}
use Rattle.trace_test.specs.Expectations.{events_to, expectations, expectations_in, first_events, holds, last_of, refuses, text_of}
use Rattle.trace_test.specs.Expectations.{unexpected}
use Rattle.trace_test.specs.Questions.{rules_after}
use Rattle.trace_test.specs.TestOutput.{TestEnds, count_line, count_text, event_lines, lines_of_events, test_output, tested_output}
use Rattle.trace_test.specs.TestOutput.{tested_status}
use Rattle.test_script.specs.TestScript.{TestCommand, ask, expect, test_script}
use Rattle.trace_test.specs.inner.Tests.{IsShortTest, IsTested, Testing, answered_step, answered_with, asked_events, ending_lines}
use Rattle.trace_test.specs.inner.Tests.{first_testing, rules_with, status_by, test_engine, with_one}
use Rattle.trace_test.proofs.Kept.{kept_with, same_answer}

count_first : (e : Expectation) (told : List Expectation) → count_by holds (e ∷ told) ≡ cond (holds e) 1 0 + count_by holds told
count_first e told = sum_by-cons (λ e. cond (holds e) 1 0) e told

-- ---- events

lines-append : (options : TestOptions) (xs ys : List Event) → lines_of_events options (xs ++ ys)
    ≡ lines_of_events options xs ++ lines_of_events options ys
lines-append options xs ys = flat_map-append (event_lines options) xs ys

-- an answer, and what is unexpected before it
counts_over : (last : Last) (number : ℕ) (text : List ℕ) (rest : List Event) →
    (length (expectations_in (unexpected last ++ answer_of number text ∷ rest)) ≡ length (unexpected last) + length (expectations_in rest))
    × (count_by holds (expectations_in (unexpected last ++ answer_of number text ∷ rest)) ≡ count_by holds (expectations_in rest))
counts_over nothing number text rest = (omega arith, refl)
counts_over (answer before) number text rest = (omega arith, refl)
counts_over (refusal at before) number text rest =
    let e : Expectation = record { number = at; expected = None; got = Some before } in
    (omega arith, count_first e (expectations_in rest) ∙ zero-add (count_by holds (expectations_in rest)))

-- what is unexpected after all events
counts_after : (es : List Event) (last : Last) →
    (length (expectations_in (es ++ unexpected last)) ≡ length (expectations_in es) + length (unexpected last))
    × (count_by holds (expectations_in (es ++ unexpected last)) ≡ count_by holds (expectations_in es))
counts_after [] nothing = (omega arith, refl)
counts_after [] (answer text) = (omega arith, refl)
counts_after [] (refusal number text) =
    let e : Expectation = record { number = number; expected = None; got = Some text } in
    (omega arith, count_first e [] ∙ zero-add (count_by holds []))
counts_after (answer_of number text ∷ es) last = counts_after es last
counts_after (compared e ∷ es) last =
    let rest = counts_after es last in (
      omega (arith, rest.0),
      count_first e (expectations_in (es ++ unexpected last)) ∙ ap (λ n. cond (holds e) 1 0 + n) rest.1
          ∙ sym (count_first e (expectations_in es)),
    )

-- ---- what the engine does

module _ (limit : StateLimit) where
  abbrev from : (Last → List Event) → Testing → List TestCommand → List Event
  from ending t cs = events_to ending limit t.history t.last cs

  abbrev none : Last → List Event
  none last = []

  -- what commands print, and where they lead
  record Agrees (t : Testing) (cs : List TestCommand) (printed : List (List ℕ)) (now : Testing) : Type 0 where
    lines : printed ≡ lines_of_events t.options (from none t cs)
    total : now.total ≡ t.total + length (expectations_in (from none t cs))
    held : now.held ≡ t.held + count_by holds (expectations_in (from none t cs))
    options : now.options ≡ t.options
    ended : (ending : Last → List Event) → from ending t cs ≡ from none t cs ++ ending now.last

  module _ (t : Testing) (number : ℕ) (p : Printed) (is_refusal : Bool) (cs : List TestCommand) where
    abbrev last : Last
    last = last_of number p.text is_refusal

    abbrev rest : List Event
    rest = events_to none limit p.history last cs

    abbrev all : List Event
    all = unexpected t.last ++ answer_of number p.text ∷ rest

    lines_over : lines_of_events t.options (asked_events t.last number p.text) ++ lines_of_events t.options rest
        ≡ lines_of_events t.options all
    lines_over =
        sym (lines-append t.options (asked_events t.last number p.text) rest)
        ∙ ap (lines_of_events t.options) (append_assoc (unexpected t.last) (answer_of number p.text ∷ []) rest)

  agrees : (t : Testing) (cs : List TestCommand) → t.published ≡ rules_after t.history.deeds →
      Agrees t cs (lines_by (test_engine limit) t cs) (state_by (test_engine limit) t cs)
  agrees t [] kept = record { lines = refl; total = omega arith; held = omega arith; options = refl; ended = λ ending. refl }
  agrees t (expect number text ∷ cs) kept =
      let e : Expectation = record { number = number; expected = Some text; got = text_of t.last } in
      let next = with_one t (holds e) in
      let later = agrees next cs kept in
      let counted = count_first e (expectations_in (from none next cs)) in
      record {
        lines = ap (λ (l : List (List ℕ)). lines_of_events t.options (compared e ∷ []) ++ l) later.lines
            ∙ sym (lines-append t.options (compared e ∷ []) (from none next cs));
        total = omega (arith, later.total);
        held = omega (arith, later.held, counted);
        options = later.options;
        ended = λ ending. ap (λ (es : List Event). compared e ∷ es) (later.ended ending);
      }
  agrees t (ask number c ∷ cs) kept =
      let p = answered limit t.history c in
      let rules = rules_with limit c t.published in
      let Step : Printed → Testing = λ (p : Printed). (answered_step t number p rules (last_of number p.text (refuses limit c))).state in
      let P : Printed → Type 0 = λ (p : Printed). Agrees t (ask number c ∷ cs)
      (lines_of_events t.options (asked_events t.last number p.text) ++ lines_by (test_engine limit) (Step p) cs)
      (state_by (test_engine limit) (Step p) cs) in
      let later = agrees (Step p) cs (kept_with limit t.history t.published c kept) in
      let counts = counts_over t.last number p.text (rest t number p (refuses limit c) cs) in
      let here : P p = record {
        lines = ap (λ (l : List (List ℕ)). lines_of_events t.options (asked_events t.last number p.text) ++ l) later.lines
            ∙ lines_over t number p (refuses limit c) cs;
        total = omega (arith, later.total, counts.0);
        held = later.held ∙ ap (λ n. t.held + n) (sym counts.1);
        options = later.options;
        ended = λ ending. ap (λ (es : List Event). unexpected t.last ++ answer_of number p.text ∷ es) (later.ended ending)
            ∙ sym (append_assoc (unexpected t.last) (answer_of number p.text ∷ rest t number p (refuses limit c) cs) (ending
            (state_by (test_engine limit) (Step p) cs).last));
      } in
      subst P (sym (same_answer limit t.history t.published c kept)) here

  module _ (options : TestOptions) (history : History) (fresh : length history.deeds ≡ 0) (cs : List TestCommand) where
    abbrev first : Testing
    first = first_testing options history

    abbrev now : Testing
    now = state_by (test_engine limit) first cs

    agreed : Agrees first cs (lines_by (test_engine limit) first cs) now
    agreed = agrees first cs (ap rules_after (sym (drop_all 0 history.deeds (omega (arith, fresh)))))

    abbrev es : List Event
    es = events limit history cs

    pub test_lines_are : lines_by (test_engine limit) first cs ≡ lines_of_events options (first_events limit history cs)
    test_lines_are = agreed.lines

    split : es ≡ first_events limit history cs ++ unexpected now.last
    split = agreed.ended unexpected

    pub total_is : now.total + length (unexpected now.last) ≡ length (expectations_in es)
    total_is =
        let after = counts_after (first_events limit history cs) now.last in
        let same = ap (λ (es : List Event). length (expectations_in es)) split in omega (arith, agreed.total, after.0, same)

    pub held_is : now.held ≡ count_by holds (expectations_in es)
    held_is =
        let after = counts_after (first_events limit history cs) now.last in
        agreed.held ∙ zero-add (count_by holds (expectations_in (first_events limit history cs))) ∙ sym after.1
        ∙ ap (λ (es : List Event). count_by holds (expectations_in es)) (sym split)

    -- all lines, with those of the end
    pub all_lines_are : lines_of_events options (first_events limit history cs) ++ ending_lines now
        ≡ lines_of_events options es ++ count_line options (expectations_in es) ∷ []
    all_lines_are =
        let f = first_events limit history cs in
        let count = λ (n : ℕ) (m : ℕ). count_text options.format n m ∷ [] in
        let end : ending_lines now ≡ lines_of_events options (unexpected now.last) ++ count_line options (expectations_in es) ∷ [] =
        ap (λ (o : TestOptions). lines_of_events o (unexpected now.last)
        ++ count_text o.format now.held (now.total + length (unexpected now.last)) ∷ []) agreed.options
        ∙ ap (λ (n : ℕ). lines_of_events options (unexpected now.last) ++ count n (now.total + length (unexpected now.last))) held_is
        ∙ ap (λ (n : ℕ). lines_of_events options (unexpected now.last) ++ count (count_by holds (expectations_in es)) n) total_is in
        ap (λ (l : List (List ℕ)). lines_of_events options f ++ l) end
        ∙ sym (append_assoc (lines_of_events options f) (lines_of_events options (unexpected now.last))
        (count_line options (expectations_in es) ∷ []))
        ∙ ap (λ (l : List (List ℕ)). l ++ count_line options (expectations_in es) ∷ [])
        (sym (lines-append options f (unexpected now.last)) ∙ ap (lines_of_events options) (sym split))

-- ---- whether all expectations hold

all_held : (told : List Expectation) → list_all holds told ≡ true → count_by holds told ≡ length told
all_held [] e = refl
all_held (x ∷ told) e = count_first x told ∙ by (all_held told) (holds x) e
  where
    by : (list_all holds told ≡ true → count_by holds told ≡ length told) → (b : Bool) → (b && list_all holds told) ≡ true →
        cond b 1 0 + count_by holds told ≡ length (x ∷ told)
    by rest true e = omega (arith, rest e)
    by rest false e = cc

not_all_held : (told : List Expectation) → list_all holds told ≡ false → count_by holds told < length told
not_all_held [] e = cc
not_all_held (x ∷ told) e = rw (count_first x told) (by (not_all_held told) (holds x) e)
  where
    by : (list_all holds told ≡ false → count_by holds told < length told) → (b : Bool) → (b && list_all holds told) ≡ false →
        cond b 1 0 + count_by holds told < length (x ∷ told)
    by rest true e = omega (arith, rest e)
    by rest false e = omega (arith, count_by-le-length holds told)

some_status : (e : Expectation) (told : List Expectation) (held total : ℕ) → held ≡ count_by holds (e ∷ told) →
    total ≡ length (e ∷ told) → status_by held total ≡ tested_status (e ∷ told)
some_status e told held total h t =
    ap (λ b. cond b Unmet (cond (held == total) Done Unmet)) (ne_eqb total 0 (λ none. omega (arith, t, none)))
    ∙ by (list_all holds (e ∷ told)) refl
  where
    by : (all : Bool) → list_all holds (e ∷ told) ≡ all → cond (held == total) Done Unmet ≡ cond all Done Unmet
    by true is = ap (λ b. cond b Done Unmet) (eq-eqb held total (h ∙ all_held (e ∷ told) is ∙ sym t))
    by false is = ap (λ b. cond b Done Unmet) (ne_eqb held total (λ same. omega (arith, not_all_held (e ∷ told) is)))

pub status_is : (told : List Expectation) (held total : ℕ) → held ≡ count_by holds told → total ≡ length told →
    status_by held total ≡ tested_status told
status_is [] held total h t = ap (λ b. cond b Unmet (cond (held == total) Done Unmet)) (eq-eqb total 0 t)
status_is (e ∷ told) held total h t = some_status e told held total h t

-- ---- how a test ends

module _ (options : TestOptions) (limit : StateLimit) (history : History) (fresh : length history.deeds ≡ 0)
    (left after : Option (List ℕ)) (text : List ℕ) (now : Testing) (a b : Option (List ℕ)) where
  abbrev commands : List TestCommand
  commands = (test_script text).commands

  abbrev told : List Event
  told = events limit history commands

  short_test : IsShortBy (test_engine limit) (first_testing options history) left after text a b
      → IsShortTest options limit history left after text a b
  short_test (count, read, appended) = (count, read, rw (test_lines_are limit options history fresh (take count commands)) at appended)

  -- the lines of the first events are a front part of all
  failures_first : (stopped : Option ℕ)
      → AppendsFront a b (text_of_lines (lines_of_events options (first_events limit history commands))) →
      AppendsFront a b (tested_output options limit history commands stopped).answers
  failures_first (Some number) h = h
  failures_first None (front, back, split, appended) =
      let first = lines_of_events options (first_events limit history commands) in
      let last = ending_lines (state_by (test_engine limit) (first_testing options history) commands) in (
        front,
        back ++ text_of_lines last,
        ap text_of_lines (sym (all_lines_are limit options history fresh commands)) ∙ text_of_lines-append first last
            ∙ ap (λ (l : List ℕ). l ++ text_of_lines last) split ∙ append_assoc front back (text_of_lines last),
        appended,
      )

  pub stopped_test : (stop : Stop)
      → IsFollowedBy (test_engine limit) {T = Unit {0}} (first_testing options history) left after text now a b (Err stop)
      → IsTested options limit history left after text a b (Err stop)
  stopped_test (NoCommand number) (stopped, appended) =
      (stopped, rw (test_lines_are limit options history fresh commands) at appended)
  stopped_test Input h = short_test h
  stopped_test TooLong h = short_test h.1
  stopped_test Memory h = short_test h
  stopped_test Output h = failures_first (test_script text).stopped (rw (test_lines_are limit options history fresh commands) at h)

  module _ (whole : IsFollowedBy (test_engine limit) {T = Unit {0}} (first_testing options history) left after text now a b (Ok tt)) where
    -- there was no memory for the last lines
    pub uncounted_test : (stop : Stop) → stop ≡ Memory → IsTested options limit history left after text a b (Err stop)
    uncounted_test stop e =
        let lines = rw (test_lines_are limit options history fresh commands) at whole.2 in
        let short : IsShortTest options limit history left after text a b =
        (length commands, (text, whole.3, omega arith), rw (take_all (length commands) commands (omega arith)) lines) in
        let P : Stop → Type 0 = λ stop. IsTested options limit history left after text a b (Err stop) in
        subst P (sym e) short

    abbrev last_state : Testing
    last_state = state_by (test_engine limit) (first_testing options history) commands

    ends_so : status_by now.held (now.total + length (unexpected now.last)) ≡ tested_status (expectations limit history commands)
    ends_so =
        ap (λ (t : Testing). status_by t.held (t.total + length (unexpected t.last))) whole.1
        ∙ status_is (expectations limit history commands) last_state.held (last_state.total + length (unexpected last_state.last))
        (held_is limit options history fresh commands) (total_is limit options history fresh commands)

    pub whole_test : (c : Option (List ℕ)) (bytes : List ℕ) (status : Status)
        → status ≡ status_by now.held (now.total + length (unexpected now.last))
        → bytes ≡ text_of_lines (ending_lines now) → Appends b c bytes → IsTested options limit history left after text a c (Ok status)
    whole_test c bytes status ends e put =
        let lines = rw (test_lines_are limit options history fresh commands) at whole.2 in
        let first = lines_of_events options (first_events limit history commands) in
        let same : bytes ≡ text_of_lines (ending_lines last_state) = e ∙ ap (λ (t : Testing). text_of_lines (ending_lines t)) whole.1 in
        let all : Appends a c (text_of_lines (first ++ ending_lines last_state)) =
        wrote_more a b c first (ending_lines last_state) lines (rw same at put) in (
          whole.0,
          ends ∙ ends_so,
          subst (λ (l : List (List ℕ)). Appends a c (text_of_lines l)) (all_lines_are limit options history fresh commands) all,
        )

    cut_last : (c : Option (List ℕ)) → AppendsFront b c (text_of_lines (ending_lines last_state)) →
        AppendsFront a c (test_output options limit history (test_script text)).answers
    cut_last c front =
        let lines = rw (test_lines_are limit options history fresh commands) at whole.2 in
        let first = lines_of_events options (first_events limit history commands) in
        let P : Option ℕ → Type 0 = λ stopped. AppendsFront a c (tested_output options limit history commands stopped).answers in
        let all = subst (λ (l : List (List ℕ)). AppendsFront a c (text_of_lines l)) (all_lines_are limit options history fresh commands)
        (front_more a b c first (ending_lines last_state) lines front) in
        subst P (sym whole.0) all

    pub cut_test : (c : Option (List ℕ)) (bytes : List ℕ) (stop : Stop) → bytes ≡ text_of_lines (ending_lines now) →
        IsPut {T = Unit {0}} b c bytes (Err stop) → IsTested options limit history left after text a c (Err stop)
    cut_test c bytes (NoCommand number) e put = absurd put
    cut_test c bytes Input e put = absurd put
    cut_test c bytes TooLong e put = absurd put
    cut_test c bytes Memory e put = absurd put
    cut_test c bytes Output e put =
        let same : bytes ≡ text_of_lines (ending_lines last_state) = e ∙ ap (λ (t : Testing). text_of_lines (ending_lines t)) whole.1 in
        cut_last c (rw same at put)

-- ---- what is reported at the end

module _ (options : TestOptions) (limit : StateLimit) (history : History) (fresh : length history.deeds ≡ 0) (text : List ℕ)
    (left after a b : Option (List ℕ)) where
  abbrev asked : List TestCommand
  asked = (test_script text).commands

  abbrev expected : List Expectation
  expected = expectations limit history asked

  abbrev quiet : Option (List ℕ) → Streams
  quiet f = streams a b f f

  pub done_test : (f : Option (List ℕ)) (status : Status) → IsTested options limit history left after text a b (Ok status) →
      TestEnds options limit (quiet f) left after history text status
  done_test f status (stopped, ends, answers) =
      subst (λ status. TestEnds options limit (quiet f) left after history text status) (sym ends) (ended expected refl)
    where
      written : (status : Status) → tested_status expected ≡ status →
          IsWritten (quiet f) (test_output options limit history (test_script text)) status
      written status e =
          let P : Option ℕ → Type 0 = λ stopped. IsWritten (quiet f) (tested_output options limit history asked stopped) status in
          subst P (sym stopped) (record { answers = answers; faults = appends_nothing f; ends = e })

      by : (all : Bool) → tested_status expected ≡ cond all Done Unmet →
          TestEnds options limit (quiet f) left after history text (cond all Done Unmet)
      by true e = written Done e
      by false e = written Unmet e

      ended : (told : List Expectation) → expected ≡ told → TestEnds options limit (quiet f) left after history text (tested_status told)
      ended [] e = written Unmet (ap tested_status e)
      ended (x ∷ told) e = by (list_all holds (x ∷ told)) (ap tested_status e)

  module _ (f t : Option (List ℕ)) where
    abbrev both : Streams
    both = streams a b f t

    -- what was written is a front part of what is to be written
    first_stands : (count : ℕ) →
        Appends a b (text_of_lines (lines_of_events options (first_events limit history (take count (test_script text).commands)))) →
        AppendsFront a b (test_output options limit history (test_script text)).answers
    first_stands count h =
        let commands = (test_script text).commands in
        let first = take count commands in
        let here = lines_of_events options (first_events limit history first) in
        let left_lines = lines_by (test_engine limit) (state_by (test_engine limit) (first_testing options history) first)
        (drop count commands) in
        let split : lines_of_events options (first_events limit history commands) ≡ here ++ left_lines =
        sym (test_lines_are limit options history fresh commands)
        ∙ ap (lines_by (test_engine limit) (first_testing options history)) (sym (take-append-drop count commands))
        ∙ lines_by-append (test_engine limit) (first_testing options history) first (drop count commands)
        ∙ ap (λ (lines : List (List ℕ)). lines ++ left_lines) (test_lines_are limit options history fresh first) in
        let front : AppendsFront a b (text_of_lines (lines_of_events options (first_events limit history commands))) = (
          text_of_lines here,
          text_of_lines left_lines,
          ap text_of_lines split ∙ text_of_lines-append here left_lines,
          h,
        ) in
        failures_first options limit history fresh left after text (first_testing options history) a b (test_script text).stopped front

    front_stands : (stop : Stop) → IsTested options limit history left after text a b (Err stop) →
        AppendsFront a b (test_output options limit history (test_script text)).answers
    front_stands (NoCommand number) (stopped, h) =
        let P : Option ℕ → Type 0 = λ stopped. AppendsFront a b (tested_output options limit history asked stopped).answers in
        let first = lines_of_events options (first_events limit history asked) in
        subst P (sym stopped) (text_of_lines first, [], sym (append-nil (text_of_lines first)), h)
    front_stands Input (count, read, h) = first_stands count h
    front_stands TooLong (count, read, h) = first_stands count h
    front_stands Memory (count, read, h) = first_stands count h
    front_stands Output h = h

    told_so : (stop : Stop) → IsTested options limit history left after text a b (Err stop) → Appends f t (line (stop_text stop)) →
        TestEnds options limit both left after history text (stop_status stop)
    told_so (NoCommand number) (stopped, h) told =
        let P : Option ℕ → Type 0 = λ stopped. IsWritten both (tested_output options limit history asked stopped) Refused in
        subst P (sym stopped) (record { answers = h; faults = told; ends = refl })
    told_so Input (count, read, h) told = record { count = count; read = read; answers = h; faults = told }
    told_so TooLong (count, read, h) told = record { count = count; read = read; answers = h; faults = told }
    told_so Memory (count, read, h) told = record { count = count; read = read; answers = h; faults = told }
    told_so Output h told = record { answers = h; faults = told }

    pub told_test : (stop : Stop) (status : Status) → IsTested options limit history left after text a b (Err stop) →
        IsTold f t (stop_text stop) (stop_status stop) status
        → TestEnds options limit both left after history text status
    told_test stop status h (inl e) = subst (λ status. TestEnds options limit both left after history text status) (sym e)
        (front_stands stop h)
    told_test stop status h (inr (e, told)) = subst (λ status. TestEnds options limit both left after history text status) (sym e)
        (told_so stop h told)
