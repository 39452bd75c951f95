-- What was noted, and what is noted of the lines that are left, are the notes; and lines and bytes that are left can be counted.
use Rattle.std.proofs.Common.{◌≡◌, ◌≤◌, ◌+◌, ◌++◌, length, Some}
use Rattle.trace_script.specs.Engine.{section_value}
use Rattle.trace_script.specs.Script.{lines_of}
use Rattle.script_notes.specs.ScriptNotes.{notes_from, script_notes}
use Rattle.script_notes.proofs.notes.script_notes.Given as goal

abbrev pub invariant-loop-rest : goal.invariant-loop-rest
invariant-loop-rest l = record {
  noted : l.notes.items ++ notes_from l.script l.noted (Some (section_value l.section)) l.before (lines_of l.rest)
      ≡ script_notes l.script l.fn.text;
  counted : l.before + length l.rest ≤ length l.fn.text;
}

abbrev pub decreases-loop-rest : goal.decreases-loop-rest
decreases-loop-rest l = length l.rest
