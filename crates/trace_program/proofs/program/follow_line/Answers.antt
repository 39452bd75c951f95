use Rattle.std.proofs.Common.{◌≡◌, false, true, inl, inr, rules}
use Rattle.trace_arguments.specs.Values.{line_value}
use Rattle.trace_report.specs.laws.Endings.{text_of}
use Rattle.trace_program.specs.Notes.{has_notes}
use Rattle.trace_program.proofs.Runs.{noted_line, unnoted_line, unread_whole}
use Rattle.trace_program.proofs.program.follow_line.Goals as goal

pub returns-then-not-has_notes-clause-output : goal.returns-then-not-has_notes-clause-output
returns-then-not-has_notes-clause-output g c limit =
    let ran = c.follow.ensures.output limit in
    let none : has_notes (line_value c.args.line.now) ≡ false = search rules in
    (ran.0, ran.1, unnoted_line limit _ (line_value c.args.line.now) ran.0 _ _ _ c.follow.result none ran.2)

pub returns-in-Ok-clause-output : goal.returns-in-Ok-clause-output
returns-in-Ok-clause-output g c limit =
    let noted : has_notes (line_value c.args.line.now) ≡ true = search rules in
    let ran = rw c.deref.ensures.value at (c.follow_with_notes.ensures limit) in (
      c.in-Ok.text.items,
      c.in-Ok.ensures,
      noted_line limit _ (line_value c.args.line.now) c.in-Ok.text.items _ _ _ c.follow_with_notes.result noted (inl ran),
    )

pub returns-in-Err-clause-output : goal.returns-in-Err-clause-output
returns-in-Err-clause-output g c limit =
    let text = text_of (g.R.Read.remaining c.args.input.now) in
    let noted : has_notes (line_value c.args.line.now) ≡ true = search rules in
    let unread = unread_whole c.in-Err.fault _ _ _ c.fail.result c.in-Err.ensures (rw c.status.ensures at c.fail.ensures) in
    (text.0, text.1, noted_line limit _ (line_value c.args.line.now) text.0 _ _ _ c.fail.result noted (inr unread))
