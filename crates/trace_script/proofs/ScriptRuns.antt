-- A script that is followed line by line, over the bytes that are read.
use Rattle.std.proofs.Common.{◌≡◌, ℕ, ◌+◌, ◌≤◌, List, [], ◌∷◌, ◌++◌, Option, Some, None, Result, Ok, Err, refl, sym, ap, ◌∙◌, append_assoc}
use Rattle.std.proofs.Common.{arith, subst, length, zero-add, add-zero, All, ◌≢◌}
use Rattle.std.specs.Prelude.{IfSome}
use Rattle.std.proofs.lemmas.List.{append-nil}
use Rattle.std.specs.Io.KnownBytes.{Keeps, Appends, Consumes}
use Rattle.trace_script.specs.declared.section.Section.{Section as SectionHere}
use Rattle.trace_script.specs.declared.reader.LineRead.{LineRead}
use Rattle.trace_script.specs.declared.reader.LineRead.TheVariants.{Whole, Last, End}
use Rattle.trace_script.specs.declared.stop.Stop.{Stop}
use Rattle.trace_script.specs.declared.stop.Stop.TheVariants.{NoCommand, Input, TooLong, Memory, Output}
use Rattle.trace_script.specs.Engine.{section_value, is_open_at, IsClosed, IsLineRead, IsPartRead, most_lines}
use Rattle.trace_script.specs.FollowedScripts.{Engine, Lines, DoesAll, IsFollowed, IsShort, IsLineFollowed, script}
use Rattle.trace_script.specs.RunOutput.{text_of_lines}
use Rattle.trace_script.specs.Script.{Section, outside, line_feed, lines_of, stops_at, ScriptOf}
use Rattle.trace_report.specs.Streams.{IsTextOf}
use Rattle.trace_report.specs.laws.Endings.{appends_nothing, keeps}
use Rattle.trace_report.specs.laws.Fronts.{Appends-kept}
use Rattle.trace_script.specs.laws.FollowedScripts.{IsAhead, ahead_next, all_done, did_more, first_done, from_line}
use Rattle.trace_script.specs.laws.FollowedScripts.{front_more, next_line, no_line}
use Rattle.trace_script.specs.laws.FollowedScripts.{still_few, stopped_left, wrote_more}
use Rattle.trace_script.proofs.LineReads.{Consumes-more, last_line, whole_line}

pub consumes_nothing : (left : Option (List ℕ)) → Consumes left left []
consumes_nothing None = tt
consumes_nothing (Some xs) = refl

-- a text that begins with what was read
pub text_at : (first now : Option (List ℕ)) (read : List ℕ) → Consumes first now read → (rest : List ℕ) × IsTextOf first (read ++ rest)
text_at None now read h = ([], tt)
text_at (Some xs) None read h = absurd h
text_at (Some xs) (Some ys) read h = (ys, sym h)

-- the text that was read to its end
pub text_ended : (first now : Option (List ℕ)) (read last : List ℕ) → Consumes first now read → IfSome now (λ left. left ≡ last) →
    IsTextOf first (read ++ last)
text_ended None now read last h e = tt
text_ended (Some xs) None read last h e = absurd h
text_ended (Some xs) (Some ys) read last h e = sym (h ∙ ap (λ l. read ++ l) e)

-- what is known of the line that was read
pub as_read : (left after : Option (List ℕ)) (line seen : List ℕ) (r s : LineRead) → r ≡ s → seen ≡ line →
    IsLineRead left after line (Ok r) → IsLineRead left after seen (Ok s)
as_read left after line seen r s e same h =
    let P : LineRead → Type 0 = λ r. IsLineRead left after line (Ok r) in
    let Q : List ℕ → Type 0 = λ l. IsLineRead left after l (Ok s) in
    subst Q (sym same) (subst P e h)

-- The lines that were read so far, and their outcome.
pub record IsRunning {C S : Type 0} (engine : Engine C S) (old : S) (left_first left answers_first answers : Option (List ℕ)) (now : S)
    (section : Section) (before : ℕ) : Type 0 where
  pub read : List ℕ
  pub done : List C
  pub lines : Lines
  pub ahead : (rest : List ℕ) → IsAhead engine (read ++ rest) section before done (lines_of rest)
  pub did : DoesAll engine old done lines now
  pub consumed : Consumes left_first left read
  pub written : Appends answers_first answers (text_of_lines lines)
  pub counted : (rest : List ℕ) → length (lines_of (read ++ rest)) ≡ before + length (lines_of rest)

-- some text may have been read, and a script that is followed to here has this outcome
abbrev pub Comes : {C S T : Type 0} → Engine C S → S → Option (List ℕ) → Option (List ℕ) → S → Option (List ℕ) → Option (List ℕ) →
    Result T Stop → Type 0
Comes engine old left left_after new before after result =
    (text : List ℕ) × IsTextOf left text × IsFollowed engine old left left_after text new before after result

pub running_start : {C S : Type 0} (engine : Engine C S) (old : S) (left answers : Option (List ℕ)) →
    IsRunning engine old left left answers answers old outside 0
running_start engine old left answers = record {
  read = [];
  done = [];
  lines = [];
  ahead = λ rest. record { commands = refl; stopped = refl };
  did = (refl, refl);
  consumed = consumes_nothing left;
  written = appends_nothing answers;
  counted = λ rest. sym (zero-add (length (lines_of rest)));
}

-- all commands of a script were done, and then it ended
closed : {C S T : Type 0} (engine : Engine C S) (old : S) (first after : Option (List ℕ)) (text : List ℕ) (now : S)
    (section : Section) (before : ℕ) (done : List C) (lines : Lines) (a b : Option (List ℕ)) (result : Result T Stop)
    → IsAhead engine text section before done [] → DoesAll engine old done lines now → IsClosed section result →
    Appends a b (text_of_lines lines) → Consumes first after text → IsFollowed engine old first after text now a b result
closed engine old first after text now section before done lines a b result ahead did ends h consumed = by result ends
  where
    all : DoesAll engine old (script engine text).commands lines now
    all = all_done engine old now text section before done lines ahead did

    over : (script engine text).stopped ≡ is_open_at section
    over = ahead.stopped ∙ stopped_left engine section before

    by : {T : Type 0} (result : Result T Stop) → IsClosed section result → IsFollowed engine old first after text now a b result
    by (Ok done) ends = (over ∙ ends, (lines, all, h), consumed)
    by (Err (NoCommand number)) ends = (over ∙ ends, (lines, all, h))
    by (Err Input) ends = absurd ends
    by (Err TooLong) ends = absurd ends
    by (Err Memory) ends = absurd ends
    by (Err Output) ends = absurd ends

module _ {C S : Type 0} (engine : Engine C S) (old : S) (first left a b : Option (List ℕ)) (now : S) (section : Section) (before : ℕ)
    (running : IsRunning engine old first left a b now section before) where
  -- a text that begins with what was read and a whole line
  with_line : (line rest : List ℕ) → All (λ b. b ≢ line_feed) line →
      IsAhead engine (running.read ++ ((line ++ line_feed ∷ []) ++ rest)) section before running.done (line ∷ lines_of rest)
  with_line line rest free = rw (whole_line line rest free) at (running.ahead ((line ++ line_feed ∷ []) ++ rest))

  pub running_next : (after_line : Option (List ℕ)) (line : List ℕ) (c : Option (List ℕ)) (after : S) (next : SectionHere)
      → IsLineRead left after_line line (Ok Whole) → IsLineFollowed engine now section (before + 1) line after b c (Ok next)
      → IsRunning engine old first after_line a c after (section_value next) (before + 1)
  running_next after_line line c after next (consumed, free) (lines, does, appended) =
      let part = line ++ line_feed ∷ [] in
      let n = next_line engine now after before line (section_value next) lines section does in record {
        read = running.read ++ part;
        done = running.done ++ n.more;
        lines = running.lines ++ lines;
        ahead = λ rest. rw (append_assoc running.read part rest) (ahead_next engine now after _ section before running.done line
            (lines_of rest) (section_value next) lines (with_line line rest free) n);
        did = did_more engine old now after running.done n.more running.lines lines running.did n.does;
        consumed = Consumes-more first left after_line running.read part running.consumed consumed;
        written = wrote_more a b c running.lines lines running.written appended;
        counted = λ rest.
            let count : before + length (line ∷ lines_of rest) ≡ (before + 1) + length (lines_of rest) = omega arith in
            ap (λ l. length (lines_of l)) (append_assoc running.read part rest)
            ∙ running.counted (part ++ rest)
            ∙ ap (λ (ls : List (List ℕ)). before + length ls) (whole_line line rest free)
            ∙ count;
      }

  -- the commands so far are done, and nothing of the next one is written
  short : (after_line : Option (List ℕ)) (taken rest : List ℕ) (line_left : List (List ℕ)) (c : Option (List ℕ)) →
      Consumes first after_line taken → IsAhead engine taken section before running.done line_left → length line_left ≤ 1
      → (more : List C) → (script engine rest).commands ≡ running.done ++ more → Keeps b c →
      IsShort engine old first after_line rest a c
  short after_line taken rest line_left c consumed here one more commands kept = (
    length running.done,
    running.lines,
    (taken, consumed, still_few engine taken section before running.done line_left here one),
    first_done engine old now rest running.done more running.lines commands running.did,
    Appends-kept a b c (text_of_lines running.lines) running.written kept,
  )

  -- a part of a line was taken, and no line was followed since
  running_short : (after_line : Option (List ℕ)) (part : List ℕ) → IsPartRead left after_line part → (text : List ℕ) × IsTextOf first text
      × IsShort engine old first after_line text a b
  running_short after_line part (consumed, one) =
      let text = text_at first left running.read running.consumed in (
        running.read ++ text.0,
        text.1,
        short after_line (running.read ++ part) (running.read ++ text.0) (lines_of part) b
            (Consumes-more first left after_line running.read part running.consumed consumed) (running.ahead part) one
            _ (running.ahead text.0).commands (keeps b),
      )

  -- the reader failed, or there was no memory for a line
  pub running_unread : (after_line : Option (List ℕ)) (line : List ℕ) (stop : Stop) → IsLineRead left after_line line (Err stop) →
      Comes {T = Unit {0}} engine old first after_line now a b (Err stop)
  running_unread after_line line (NoCommand number) h = absurd h
  running_unread after_line line Input h = running_short after_line line h
  running_unread after_line line TooLong h = absurd h
  running_unread after_line line Memory h = running_short after_line line h
  running_unread after_line line Output h = absurd h

  -- as many lines were read as may be read of a script
  pub running_over : before ≡ most_lines → Comes {T = Unit {0}} engine old first left now a b (Err TooLong)
  running_over all =
      let short = running_short left [] (consumes_nothing left, omega arith) in
      let lines : length (lines_of running.read) ≡ before = ap (λ l. length (lines_of l)) (sym (append-nil running.read))
      ∙ running.counted [] ∙ add-zero before in
      (short.0, short.1, ((running.read, running.consumed, lines ∙ all), short.2))

  -- following stopped at a line, which is the next one of a text
  stopped_at : (after_line : Option (List ℕ)) (taken text line : List ℕ) (left_then : List (List ℕ)) (c : Option (List ℕ))
      (after : S) (stop : Stop)
      → Consumes first after_line taken → IsAhead engine taken section before running.done (line ∷ []) →
      IsAhead engine text section before running.done (line ∷ left_then) → IsLineFollowed engine now section (before + 1) line after b c
      (Err stop) → IsFollowed engine {T = Unit {0}} old first after_line text after a c (Err stop)
  stopped_at after_line taken text line left_then c after (NoCommand number) consumed here ahead (is, none, told, same, kept) =
      let ends : from_line engine section before (line ∷ left_then) ≡ stops_at (before + 1) =
      ap (λ (s : Section). from_line engine s before (line ∷ left_then)) is ∙ no_line engine before line none left_then in
      let commands : (script engine text).commands ≡ running.done = ahead.commands ∙ ap (λ (s : ScriptOf C). running.done
      ++ s.commands) ends ∙ append-nil running.done in
      let stopped : (script engine text).stopped ≡ Some number = ahead.stopped ∙ ap (λ (s : ScriptOf C). s.stopped) ends
      ∙ ap Some (sym told) in
      (stopped, (running.lines, rw (commands, same) running.did, Appends-kept a b c (text_of_lines running.lines) running.written kept))
  stopped_at after_line taken text line left_then c after Input consumed here ahead h = absurd h
  stopped_at after_line taken text line left_then c after TooLong consumed here ahead h = absurd h
  stopped_at after_line taken text line left_then c after Memory consumed here ahead kept = short after_line taken text (line ∷ []) c
      consumed here (omega arith) _ ahead.commands kept
  stopped_at after_line taken text line left_then c after Output consumed here ahead (next, lines, reached, does, front) =
      let n = next_line engine now reached before line next lines section does in
      let on = ahead_next engine now reached text section before running.done line left_then next lines ahead n in (
        length (running.done ++ n.more),
        running.lines ++ lines,
        first_done engine old reached text (running.done ++ n.more) _ (running.lines ++ lines) on.commands
            (did_more engine old now reached running.done n.more running.lines lines running.did n.does),
        front_more a b c running.lines lines running.written front,
      )

  pub running_stopped : (after_line : Option (List ℕ)) (line : List ℕ) (c : Option (List ℕ)) (after : S) (stop : Stop)
      → IsLineRead left after_line line (Ok Whole) → IsLineFollowed engine now section (before + 1) line after b c (Err stop)
      → Comes {T = Unit {0}} engine old first after_line after a c (Err stop)
  running_stopped after_line line c after stop (consumed, free) stopped =
      let part = line ++ line_feed ∷ [] in
      let taken = Consumes-more first left after_line running.read part running.consumed consumed in
      let text = text_at first after_line (running.read ++ part) taken in
      let here = rw (append-nil part) at (with_line line [] free) in (
        running.read ++ (part ++ text.0),
        rw (append_assoc running.read part text.0) at text.1,
        stopped_at after_line (running.read ++ part) (running.read ++ (part ++ text.0)) line (lines_of text.0) c after stop taken here
            (with_line line text.0 free) stopped,
      )

  -- it was the last line
  pub running_last_stopped : (after_line : Option (List ℕ)) (line : List ℕ) (c : Option (List ℕ)) (after : S) (stop : Stop)
      → IsLineRead left after_line line (Ok Last) → IsLineFollowed engine now section (before + 1) line after b c (Err stop)
      → Comes {T = Unit {0}} engine old first after_line after a c (Err stop)
  running_last_stopped after_line line c after stop (ended, free, some, consumed) stopped =
      let ahead = rw (last_line line free some) at (running.ahead line) in (
        running.read ++ line,
        text_ended first left running.read line running.consumed ended,
        stopped_at after_line (running.read ++ line) (running.read ++ line) line [] c after stop
            (Consumes-more first left after_line running.read line running.consumed consumed) ahead ahead stopped,
      )

  pub running_last : {T : Type 0} (after_line : Option (List ℕ)) (line : List ℕ) (c : Option (List ℕ)) (after : S)
      (next : SectionHere) (result : Result T Stop)
      → IsLineRead left after_line line (Ok Last) → IsLineFollowed engine now section (before + 1) line after b c (Ok next) →
      IsClosed (section_value next) result → Comes engine old first after_line after a c result
  running_last after_line line c after next result (ended, free, some, consumed) (lines, does, appended) ends =
      let ahead = rw (last_line line free some) at (running.ahead line) in
      let n = next_line engine now after before line (section_value next) lines section does in
      let on = ahead_next engine now after _ section before running.done line [] (section_value next) lines ahead n in (
        running.read ++ line,
        text_ended first left running.read line running.consumed ended,
        closed engine old first after_line _ after (section_value next) (before + 1) (running.done ++ n.more)
            (running.lines ++ lines) a c result on
            (did_more engine old now after running.done n.more running.lines lines running.did n.does) ends
            (wrote_more a b c running.lines lines running.written appended)
            (Consumes-more first left after_line running.read line running.consumed consumed),
      )

  pub running_end : {T : Type 0} (after_line : Option (List ℕ)) (line : List ℕ) (result : Result T Stop) → IsLineRead left after_line line
      (Ok End) → IsClosed section result
      → Comes engine old first after_line now a b result
  running_end after_line line result ended ends = (
    running.read ++ [],
    text_ended first left running.read [] running.consumed ended.0,
    closed engine old first after_line _ now section before running.done running.lines a b result (running.ahead []) running.did
        ends running.written (Consumes-more first left after_line running.read [] running.consumed ended.1),
  )
