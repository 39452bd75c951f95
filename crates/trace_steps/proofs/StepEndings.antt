-- How a script of events ends, by why following it stopped.
use Rattle.std.proofs.Common.{◌≡◌, ℕ, List, [], ◌∷◌, take, Option, Some, None, Err, refl, sym, inl, inr, subst}
use Rattle.std.proofs.lemmas.List.{append-nil}
use Rattle.std.specs.Io.KnownBytes.{Appends}
use Rattle.glob_automaton.specs.Automata.{StateLimit}
use Rattle.event_machine.specs.Machine.{Machine}
use Rattle.trace_report.specs.declared.status.Status.{Status}
use Rattle.trace_report.specs.declared.status.Status.TheVariants.{Done, Refused}
use Rattle.trace_report.specs.Output.{line}
use Rattle.trace_report.specs.Streams.{AppendsFront, IsTold, IsWritten, Streams, streams}
use Rattle.trace_report.specs.laws.Endings.{appends_nothing}
use Rattle.trace_script.specs.declared.stop.Stop.{Stop}
use Rattle.trace_script.specs.declared.stop.Stop.TheVariants.{NoCommand, Input, TooLong, Memory, Output}
use Rattle.trace_script.specs.Engine.{stop_text, stop_status}
use Rattle.trace_script.specs.RunOutput.{ended_output, text_of_lines}
use Rattle.trace_steps.specs.StepScript.{StepCommand, step_script}
use Rattle.trace_steps.specs.StepLines.{Lines, DoesAll}
use Rattle.trace_steps.specs.StepsOutput.{StepsEnd, IsWhole, IsFront, PrintsFirst}
use Rattle.trace_steps.specs.inner.FollowedSteps.{step_engine}
use Rattle.trace_script.specs.FollowedScripts.{IsFollowed, IsShort, DoesAll as DoesAllBy, PrintsFirst as PrintsFirstBy}
use Rattle.trace_script.specs.laws.FollowedScripts.{all_first}

-- all lines are written, which is a front part of them
all_stand : (a b : Option (List ℕ)) (lines : Lines) → Appends a b (text_of_lines lines) → AppendsFront a b (text_of_lines lines)
all_stand a b lines h = (text_of_lines lines, [], sym (append-nil (text_of_lines lines)), h)

-- what commands do, one after the other
did_all : (limit : StateLimit) (old new : Machine) (cs : List StepCommand) (lines : Lines) → DoesAllBy (step_engine limit) old cs lines new
    → DoesAll limit old cs lines new
did_all limit old new [] lines did = did
did_all limit old new (c ∷ cs) lines (here, later, between, does, all, is) =
    (here, later, between, does, did_all limit between new cs later all, is)

first_prints : (limit : StateLimit) (old : Machine) (text : List ℕ) (count : ℕ) (lines : Lines) →
    PrintsFirstBy (step_engine limit) old text count lines → PrintsFirst limit text old count lines
first_prints limit old text count lines (reached, did) =
    record { new = reached; done = did_all limit old reached (take count (step_script text).commands) lines did }

module _ (limit : StateLimit) (old new : Machine) (text : List ℕ) (left after a b f t : Option (List ℕ)) where
  abbrev both : Streams
  both = streams a b f t

  abbrev Follows : Stop → Type 0
  Follows stop = IsFollowed (step_engine limit) {T = Unit {0}} old left after text new a b (Err stop)

  first_stand : (count : ℕ) (lines : Lines) → PrintsFirstBy (step_engine limit) old text count lines →
      AppendsFront a b (text_of_lines lines) → IsFront limit both text old
  first_stand count lines prints front =
      record { count = count; lines = lines; prints = first_prints limit old text count lines prints; answers = front }

  short_stands : IsShort (step_engine limit) old left after text a b → IsFront limit both text old
  short_stands (count, lines, read, prints, h) = first_stand count lines prints (all_stand a b lines h)

  front_stands : (stop : Stop) → Follows stop → IsFront limit both text old
  front_stands (NoCommand number) (stopped, (lines, did, h)) =
      let (count, prints) = all_first (step_engine limit) old new text lines did in
      first_stand count lines prints (all_stand a b lines h)
  front_stands Input h = short_stands h
  front_stands TooLong h = short_stands h.1
  front_stands Memory h = short_stands h
  front_stands Output (count, lines, prints, front) = first_stand count lines prints front

  told_so : (stop : Stop) → Follows stop → Appends f t (line (stop_text stop)) → StepsEnd limit both left after old new text
      (stop_status stop)
  told_so (NoCommand number) (stopped, (lines, did, h)) told =
      let written : IsWritten both (ended_output lines (Some number)) Refused = record { answers = h; faults = told; ends = refl } in
      record {
        lines = lines;
        done = did_all limit old new (step_script text).commands lines did;
        written = subst (λ (s : Option ℕ). IsWritten both (ended_output lines s) Refused)
            (sym stopped) written;
      }
  told_so Input (count, lines, read, prints, h) told = record {
    count = count;
    read = read;
    lines = lines;
    prints = first_prints limit old text count lines prints;
    answers =
        h;
    faults = told;
  }
  told_so TooLong (all, (count, lines, read, prints, h)) told = record {
    count = count;
    read = read;
    lines = lines;
    prints = first_prints limit old text count lines prints;
    answers = h;
    faults = told;
  }
  told_so Memory (count, lines, read, prints, h) told = record {
    count = count;
    read = read;
    lines = lines;
    prints = first_prints limit old text count lines prints;
    answers =
        h;
    faults = told;
  }
  told_so Output h told = (front_stands Output h, told)

  pub steps_end : (stop : Stop) (status : Status) → Follows stop → IsTold f t (stop_text stop) (stop_status stop) status →
      StepsEnd limit both left after old new text status
  steps_end stop status h (inl e) = subst (λ (status : Status). StepsEnd limit both left after old new text status) (sym e)
      (front_stands stop h)
  steps_end stop status h (inr (e, told)) = subst (λ (status : Status). StepsEnd limit both left after old new text status) (sym e)
      (told_so stop h told)

-- a script that was followed to its end
pub steps_done : (limit : StateLimit) (old new : Machine) (text : List ℕ) (lines : Lines) (a b f : Option (List ℕ)) →
    (step_script text).stopped ≡ None → DoesAllBy (step_engine limit) old (step_script text).commands lines new
    → Appends a b (text_of_lines lines) →
    IsWhole limit (streams a b f f) text old new Done
steps_done limit old new text lines a b f stopped did h =
    let both : Streams = streams a b f f in
    let written : IsWritten both (ended_output lines None) Done = record { answers = h; faults = appends_nothing f; ends = refl } in
    record {
      lines = lines;
      done = did_all limit old new (step_script text).commands lines did;
      written = subst (λ (s : Option ℕ). IsWritten both (ended_output lines s) Done)
          (sym stopped) written;
    }
