-- How a script ends, by why it was followed no further.
use Rattle.std.proofs.Common.{◌≡◌, ℕ, List, [], take, drop, Option, Some, None, Err, refl, sym, ap, ◌∙◌, inl, inr, take-append-drop, subst}
use Rattle.std.specs.Io.KnownBytes.{Appends}
use Rattle.std.proofs.lemmas.List.{append-nil}
use Rattle.glob_automaton.specs.Automata.{StateLimit}
use Rattle.trace_script.specs.declared.stop.Stop.{Stop}
use Rattle.trace_script.specs.declared.stop.Stop.TheVariants.{NoCommand, Input, TooLong, Memory, Output}
use Rattle.trace_report.specs.declared.status.Status.{Status}
use Rattle.trace_report.specs.declared.status.Status.TheVariants.{Done, Refused}
use Rattle.trace_script.specs.Engine.{stop_text, stop_status}
use Rattle.trace_script.specs.inner.FollowedScripts.{run_engine}
use Rattle.trace_report.specs.Output.{Output as Written, line}
use Rattle.mediation.specs.History.{History}
use Rattle.trace_script.specs.RunOutput.{ScriptEnds, script_output, ended_output, printed_lines, text_of_lines}
use Rattle.trace_script.specs.Script.{Script, script_of}
use Rattle.trace_report.specs.Streams.{AppendsFront, IsTold, IsWritten, Streams, streams}
use Rattle.trace_script.specs.laws.Exact.{IsFollowedBy, IsShortBy, lines_by}
use Rattle.trace_script.specs.laws.FollowedScripts.{text_of_lines-append}
use Rattle.trace_script.proofs.PrintedLines.{first_run_lines_are, run_lines_are}
use Rattle.trace_report.specs.laws.Endings.{appends_nothing}

output_is : (limit : StateLimit) (history : History) (script : Script) (stopped : Option ℕ) → script.stopped ≡ stopped →
    script_output limit history script ≡ ended_output (printed_lines limit history script.commands) stopped
output_is limit history script stopped e = ap (ended_output (printed_lines limit history script.commands)) e

-- what is written on standard output doesn't depend on why no more is
answers_are : (limit : StateLimit) (history : History) (script : Script) → text_of_lines (printed_lines limit history script.commands)
    ≡ (script_output limit history script).answers
answers_are limit history script = by script.stopped
  where
    by : (stopped : Option ℕ) → text_of_lines (printed_lines limit history script.commands)
        ≡ (ended_output (printed_lines limit history script.commands) stopped).answers
    by None = refl
    by (Some number) = refl

first_lines : (a b : Option (List ℕ)) (all : List (List ℕ)) (count : ℕ) → Appends a b (text_of_lines (take count all)) →
    AppendsFront a b (text_of_lines all)
first_lines a b all count h = (
  text_of_lines (take count all),
  text_of_lines (drop count all),
  ap text_of_lines (sym (take-append-drop count all))
      ∙ text_of_lines-append (take count all) (drop count all),
  h,
)

module _ (limit : StateLimit) (history now : History) (text : List ℕ) (left after a b f t : Option (List ℕ)) where
  abbrev both : Streams
  both = streams a b f t

  abbrev lines : List (List ℕ)
  lines = printed_lines limit history (script_of text).commands

  abbrev Follows : Stop → Type 0
  Follows stop = IsFollowedBy (run_engine limit) {T = Unit {0}} history left after text now a b (Err stop)

  -- the first lines were written
  short_lines : (h : IsShortBy (run_engine limit) history left after text a b) → Appends a b (text_of_lines (take h.0 lines))
  short_lines h = rw (first_run_lines_are limit history h.0 (script_of text).commands) at h.2

  front_stands : (stop : Stop) → Follows stop → AppendsFront a b (text_of_lines lines)
  front_stands (NoCommand number) h =
      (text_of_lines lines, [], sym (append-nil (text_of_lines lines)), rw (run_lines_are limit history (script_of text).commands) at h.1)
  front_stands Input h = first_lines a b lines h.0 (short_lines h)
  front_stands TooLong h = first_lines a b lines h.1.0 (short_lines h.1)
  front_stands Memory h = first_lines a b lines h.0 (short_lines h)
  front_stands Output h = rw (run_lines_are limit history (script_of text).commands) at h

  told_so : (stop : Stop) → Follows stop → Appends f t (line (stop_text stop)) → ScriptEnds limit both left after history text
      (stop_status stop)
  told_so (NoCommand number) h told =
      let wanted = output_is limit history (script_of text) (Some number) h.0 in
      let answers = rw (run_lines_are limit history (script_of text).commands) at h.1 in
      let written : IsWritten both (ended_output lines (Some number)) Refused =
      record { answers = answers; faults = told; ends = refl } in
      let P : Written → Type 0 = λ output. IsWritten both output Refused in
      subst P (sym wanted) written
  told_so Input h told = record { count = h.0; read = h.1; answers = short_lines h; faults = told }
  told_so TooLong h told = record { count = h.1.0; read = h.1.1; answers = short_lines h.1; faults = told }
  told_so Memory h told = record { count = h.0; read = h.1; answers = short_lines h; faults = told }
  told_so Output h told = record { answers = rw (answers_are limit history (script_of text)) at (front_stands Output h); faults = told }

  pub script_ends : (stop : Stop) (status : Status) → Follows stop → IsTold f t (stop_text stop) (stop_status stop) status →
      ScriptEnds limit both left after history text status
  script_ends stop status h (inl e) =
      let front = front_stands stop h in
      let P : Status → Type 0 = λ status. ScriptEnds limit both left after history text status in
      subst P (sym e) (rw (answers_are limit history (script_of text)) at front)
  script_ends stop status h (inr (e, told)) =
      let P : Status → Type 0 = λ status. ScriptEnds limit both left after history text status in
      subst P (sym e) (told_so stop h told)

-- a script that was followed to its end
pub script_done : (limit : StateLimit) (history : History) (text : List ℕ) (a b f : Option (List ℕ)) → (script_of text).stopped ≡ None
    → Appends a b (text_of_lines (lines_by (run_engine limit) history (script_of text).commands))
    → IsWritten (streams a b f f)
    (script_output limit history (script_of text)) Done
script_done limit history text a b f e h =
    let both : Streams = streams a b f f in
    let answers = rw (run_lines_are limit history (script_of text).commands) at h in
    let written : IsWritten both (ended_output (printed_lines limit history (script_of text).commands) None) Done =
    record { answers = answers; faults = appends_nothing f; ends = refl } in
    let P : Written → Type 0 = λ output. IsWritten both output Done in
    subst P (sym (output_is limit history (script_of text) None e)) written
