-- Scripts without quotes, questions and expectations.
use Rattle.std.proofs.Common.{◌≡◌, ◌⊎◌, ℕ, ◌+◌, ◌<◌, ◌≤◌, ◌==◌, ◌||◌, Bool, true, false, cond, List, [], ◌∷◌, ◌++◌, length, map}
use Rattle.std.proofs.Common.{Option, None, refl, sym, ap, ◌∙◌, arith, suc, inl, inr, append-nil, subst}
use Rattle.std.specs.Prelude.{All, bytes_eq, codes}
use Rattle.std.specs.List.{before_first}
use Rattle.std.proofs.lemmas.Bool.{cases_lt, ne_eqb}
use Rattle.std.proofs.lemmas.List.{drop_all}
use Rattle.std.proofs.lemmas.List.Elements.{All-tail}
use Rattle.glob_automaton.specs.Automata.{StateLimit}
use Rattle.mediation.specs.History.{History}
use Rattle.trace_report.specs.declared.format.Format.{Format}
use Rattle.trace_report.specs.declared.format.Format.TheVariants.{Text}
use Rattle.trace_report.specs.declared.status.Status.TheVariants.{Unmet}
use Rattle.trace_report.specs.Output.{Output, line}
use Rattle.trace_script.specs.RunOutput.{ended_output, printed, printed_lines, script_output, text_of_lines}
use Rattle.trace_script.specs.Script.{Command, LineKind, LineOf, Section, ScriptOf, ignored, opens_policy, command, no_command, is_blank}
use Rattle.trace_script.specs.Script.{is_comment, is_end, kind_of_words, line_feed, line_kind, lines_of, outside, publish, run_grammar}
use Rattle.trace_script.specs.Script.{script_by, script_of, within, words_of}
use Rattle.trace_script.specs.laws.FollowedScripts.{text_of_lines-append}
use Rattle.trace_script.specs.laws.Grammars.{script_kind, script_within}
use Rattle.trace_test.specs.declared.options.TestOptions.{TestOptions}
use Rattle.trace_test.specs.Expectations.{Event, answer_of, Expectation, Last, nothing, answer, events, events_to, expectations_in}
use Rattle.trace_test.specs.Expectations.{last_of, refuses_policy, unexpected}
use Rattle.trace_test.specs.Laws.{IsPlain, IsPlainLine, IsTaken, asked_of}
use Rattle.trace_test.specs.TestOutput.{count_line, count_text, lines_of_events, test_output, tested_output, tested_status}
use Rattle.test_script.specs.TestScript.{TestCommand, ask, run, judge, explain, behind_first, expect_kind, first_word, from_word}
use Rattle.test_script.specs.TestScript.{is_passed, question_kind, quoted_kind, quoted_words, run_kind, test_grammar, test_kind}
use Rattle.test_script.specs.TestScript.{test_script, words_kind}
use Rattle.test_script.specs.laws.PlainWords.{after, first_is_some, first_of, none_of, plain_words}

-- words of which the first asks nothing
plain_kind_of : (number : ℕ) (word : List ℕ) (more : List (List ℕ)) → bytes_eq (codes "judge") word ≡ false →
    bytes_eq (codes "explain") word ≡ false → words_kind number (word ∷ more) ≡ run_kind number (kind_of_words (word ∷ more))
plain_kind_of number word more no_judge no_explain =
    let plain = run_kind number (kind_of_words (word ∷ more)) in
    ap (λ x. cond x (question_kind number judge more) (cond (bytes_eq (codes "explain") word) (question_kind number explain more) plain))
    no_judge
    ∙ ap (λ x. cond x (question_kind number explain more) plain) no_explain

-- what a line is that has no quotes, and asks and expects nothing
plain_kind : (number : ℕ) (line : List ℕ) → IsPlainLine line → test_kind number line ≡ run_kind number (line_kind (words_of line))
plain_kind number line plain = by (cases_lt 0 (length (from_word line)))
  where
    word : List ℕ
    word = first_word line

    asked : test_kind number line ≡ cond (is_passed word) ignored (words_kind number (words_of line))
    asked =
        ap (λ b. cond (is_passed word) ignored (cond b (expect_kind number (behind_first line))
        (quoted_kind number (quoted_words line)))) plain.no_expectation
        ∙ ap (λ words. cond (is_passed word) ignored (quoted_kind number words))
        (plain_words (length line) line (omega arith) plain.no_quote)

    by : (0 < length (from_word line)) ⊎ (length (from_word line) ≤ 0) → test_kind number line
        ≡ run_kind number (line_kind (words_of line))
    by (inl h) =
        let first = first_of line plain.no_quote h in
        let later = words_of (after line plain.no_quote) in
        let long : (length word == 0) ≡ false =
        ne_eqb (length word) 0 (λ e. omega (arith, e, first_is_some line plain.no_quote h)) in
        asked
        ∙ ap (λ b. cond (b || is_comment word) ignored (words_kind number (words_of line))) long
        ∙ ap (λ words. cond (is_comment word) ignored (words_kind number words)) first.1
        ∙ ap (cond (is_comment word) ignored) (plain_kind_of number word later plain.no_verdict plain.no_explanation)
        ∙ moved (is_comment word) (kind_of_words (word ∷ later))
        ∙ ap (λ words. run_kind number (line_kind words)) (sym first.1)
      where
        moved : (b : Bool) (kind : LineKind) → cond b ignored (run_kind number kind) ≡ run_kind number (cond b ignored kind)
        moved true kind = refl
        moved false kind = refl
    by (inr h) =
        let none = none_of line plain.no_quote h in
        let gone : from_word line ≡ [] = drop_all 0 (from_word line) h in
        let empty : word ≡ [] = ap (before_first is_blank) gone in
        asked ∙ ap (λ w. cond (is_passed w) ignored (words_kind number (words_of line))) empty
        ∙ ap (λ words. run_kind number (line_kind words)) (sym none.1)

-- a test that asks the commands of `run`, and nothing else
pub data AreSame : List TestCommand → List Command → Type 0 where
  none : AreSame [] []
  one : (number : ℕ) (c : Command) (test : List TestCommand) (script : List Command) → AreSame test script →
      AreSame (ask number (run c) ∷ test) (c ∷ script)

abbrev IsSame : ScriptOf TestCommand → ScriptOf Command → Type 0
IsSame test script = AreSame test.commands script.commands × (test.stopped ≡ script.stopped)

-- the same of lines, from a place on
plain_script : (section : Section) (before : ℕ) (lines : List (List ℕ)) → All IsPlainLine lines →
    IsSame (script_by test_grammar section before lines) (script_by run_grammar section before lines)
plain_script outside before [] plain = (none, refl)
plain_script (within start text) before [] plain = (none, refl)
plain_script outside before (line ∷ lines) plain =
    let rest = All-tail IsPlainLine line lines plain in
    let says = plain_kind (before + 1) line (plain 0 line (omega arith)) in
    let P : LineOf TestCommand → Type 0 = λ (s : LineOf TestCommand). IsSame (script_kind test_grammar before lines s)
    (script_kind run_grammar before lines (line_kind (words_of line))) in
    subst P (sym says) (by (plain_script outside (before + 1) lines rest)
    (plain_script (within (before + 1) []) (before + 1) lines rest) (line_kind (words_of line)))
  where
    by : IsSame (script_by test_grammar outside (before + 1) lines) (script_by run_grammar outside (before + 1) lines)
        → IsSame (script_by test_grammar (within (before + 1) []) (before + 1) lines)
        (script_by run_grammar (within (before + 1) []) (before + 1) lines) → (s : LineKind) →
        IsSame (script_kind test_grammar before lines (run_kind (before + 1) s)) (script_kind run_grammar before lines s)
    by on in_policy ignored = on
    by on in_policy opens_policy = in_policy
    by on in_policy (command c) = (one (before + 1) c _ _ on.0, on.1)
    by on in_policy no_command = (none, refl)
plain_script (within start text) before (line ∷ lines) plain =
    let rest = All-tail IsPlainLine line lines plain in
    by (plain_script outside (before + 1) lines rest) (plain_script (within start (text ++ line ++ line_feed ∷ [])) (before + 1)
    lines rest) (is_end line)
  where
    by : IsSame (script_by test_grammar outside (before + 1) lines) (script_by run_grammar outside (before + 1) lines)
        → IsSame (script_by test_grammar (within start (text ++ line ++ line_feed ∷ [])) (before + 1) lines)
        (script_by run_grammar (within start (text ++ line ++ line_feed ∷ [])) (before + 1) lines)
        → (b : Bool) → IsSame (script_within test_grammar start text before line lines b)
        (script_within run_grammar start text before line lines b)
    by on in_policy true = (one start (publish text) _ _ on.0, on.1)
    by on in_policy false = in_policy

plain_test : (text : List ℕ) → IsPlain text → IsSame (test_script text) (script_of text)
plain_test text plain = plain_script outside 0 (lines_of text) plain

pub plain_stopped : (text : List ℕ) → IsPlain text → (test_script text).stopped ≡ (script_of text).stopped
plain_stopped text plain = (plain_test text plain).1

same_commands : (test : List TestCommand) (script : List Command) → AreSame test script → asked_of test ≡ map run script
same_commands _ _ none = refl
same_commands _ _ (one number c test script rest) = ap (λ cs. run c ∷ cs) (same_commands test script rest)

pub plain_commands : (text : List ℕ) → IsPlain text → asked_of (test_script text).commands ≡ map run (script_of text).commands
plain_commands text plain = same_commands (test_script text).commands (script_of text).commands (plain_test text plain).0

same_length : (test : List TestCommand) (script : List Command) → AreSame test script → length test ≡ length script
same_length _ _ none = refl
same_length _ _ (one number c test script rest) = ap suc (same_length test script rest)

pub plain_length : (text : List ℕ) → IsPlain text → length (test_script text).commands ≡ length (script_of text).commands
plain_length text plain = same_length (test_script text).commands (script_of text).commands (plain_test text plain).0

-- ---- what a plain test shows

-- an answer of which nothing is expected is no expectation, unless it refuses a policy
module _ (limit : StateLimit) where
  abbrev of : History → Last → List TestCommand → List Event
  of history last cs = events_to unexpected limit history last cs

  quiet_last : (number : ℕ) (text : List ℕ) (b : Bool) → b ≡ false → last_of number text b ≡ answer text
  quiet_last number text b e = ap (last_of number text) e

  -- the events of commands that refuse no policy
  quiet_events : (history : History) (last : Last) (number : ℕ) (c : Command) (cs : List TestCommand) → unexpected last ≡ [] →
      refuses_policy limit c ≡ false
      → of history last (ask number (run c) ∷ cs)
      ≡ answer_of number (printed limit history c).text ∷ of (printed limit history c).history (answer (printed limit history c).text) cs
  quiet_events history last number c cs quiet taken =
      let p = printed limit history c in
      ap (λ (before : List Event). before ++ answer_of number p.text ∷ of p.history (last_of number p.text (refuses_policy limit c)) cs)
      quiet
      ∙ ap (λ (l : Last). answer_of number p.text ∷ of p.history l cs) (quiet_last number p.text (refuses_policy limit c) taken)

  nothing_expected : (history : History) (last : Last) (test : List TestCommand) (script : List Command) → AreSame test script →
      unexpected last ≡ [] → All (λ c. refuses_policy limit c ≡ false) script → expectations_in (of history last test) ≡ []
  nothing_expected history last _ _ none quiet taken = ap expectations_in quiet
  nothing_expected history last _ _ (one number c test script rest) quiet taken =
      let p = printed limit history c in
      ap expectations_in (quiet_events history last number c test quiet (taken 0 c (omega arith)))
      ∙ nothing_expected p.history (answer p.text) test script rest refl
      (All-tail (λ c. refuses_policy limit c ≡ false) c script taken)

  module _ (format : Format) where
    abbrev silent : TestOptions
    silent = record { format = format; answers = false }

    no_lines : (history : History) (last : Last) (test : List TestCommand) (script : List Command) → AreSame test script →
        unexpected last ≡ [] → All (λ c. refuses_policy limit c ≡ false) script → lines_of_events silent (of history last test) ≡ []
    no_lines history last _ _ none quiet taken = ap (lines_of_events silent) quiet
    no_lines history last _ _ (one number c test script rest) quiet taken =
        let p = printed limit history c in
        ap (lines_of_events silent) (quiet_events history last number c test quiet (taken 0 c (omega arith)))
        ∙ no_lines p.history (answer p.text) test script rest refl (All-tail (λ c. refuses_policy limit c ≡ false) c script taken)

  abbrev loud : TestOptions
  loud = record { format = Text; answers = true }

  run_lines : (history : History) (last : Last) (test : List TestCommand) (script : List Command) → AreSame test script →
      unexpected last ≡ [] → All (λ c. refuses_policy limit c ≡ false) script →
      lines_of_events loud (of history last test) ≡ printed_lines limit history script
  run_lines history last _ _ none quiet taken = ap (lines_of_events loud) quiet
  run_lines history last _ _ (one number c test script rest) quiet taken =
      let p = printed limit history c in
      ap (lines_of_events loud) (quiet_events history last number c test quiet (taken 0 c (omega arith)))
      ∙ ap (λ (ls : List (List ℕ)). p.text ∷ ls) (run_lines p.history (answer p.text) test script rest refl
      (All-tail (λ c. refuses_policy limit c ≡ false) c script taken))

-- an output of these lines and these expectations
abbrev shows : TestOptions → List (List ℕ) → List Expectation → Output
shows options lines es = record {
  answers = text_of_lines (lines ++ count_line options es ∷ []);
  faults = [];
  status = tested_status es;
}

module _ (text : List ℕ) (limit : StateLimit) (plain : IsPlain text) (whole : (script_of text).stopped ≡ None)
    (taken : IsTaken limit (script_of text).commands) where
  abbrev test : List TestCommand
  test = (test_script text).commands

  same : AreSame test (script_of text).commands
  same = (plain_test text plain).0

  -- nothing is expected
  shown : (options : TestOptions) (history : History) (lines : List (List ℕ)) →
      lines_of_events options (events limit history test) ≡ lines → test_output options limit history (test_script text)
      ≡ shows options lines []
  shown options history lines e =
      ap (tested_output options limit history test) (plain_stopped text plain ∙ whole)
      ∙ ap (λ (ls : List (List ℕ)). shows options ls (expectations_in (events limit history test))) e
      ∙ ap (shows options lines) (nothing_expected limit history nothing test (script_of text).commands same refl taken)

  pub plain_output : (format : Format) (history : History) → test_output (record { format = format; answers = false }) limit history
      (test_script text)
      ≡ record { answers = line (count_text format 0 0); faults = []; status = Unmet }
  plain_output format history =
      shown (record { format = format; answers = false }) history []
      (no_lines limit format history nothing test (script_of text).commands same refl taken)
      ∙ ap (λ l. record { answers = l; faults = []; status = Unmet }) (append-nil (line (count_text format 0 0)))

  pub plain_answers : (history : History) → test_output (record { format = Text; answers = true }) limit history (test_script text)
      ≡ record {
        answers = (script_output limit history (script_of text)).answers ++ line (count_text Text 0 0);
        faults = [];
        status = Unmet;
      }
  plain_answers history =
      let lines = printed_lines limit history (script_of text).commands in
      let printed_so : text_of_lines lines ≡ (script_output limit history (script_of text)).answers =
      ap (λ (stopped : Option ℕ). (ended_output lines stopped).answers) (sym whole) in
      shown (record { format = Text; answers = true }) history lines
      (run_lines limit history nothing test (script_of text).commands same refl taken)
      ∙ ap (λ l. record { answers = l; faults = []; status = Unmet })
      (text_of_lines-append lines (count_text Text 0 0 ∷ [])
      ∙ ap (λ l. text_of_lines lines ++ l) (append-nil (line (count_text Text 0 0)))
      ∙ ap (λ l. l ++ line (count_text Text 0 0)) printed_so)
