use Rattle.std.proofs.Common.{subst}
use Rattle.mediation.specs.History.{History}
use Rattle.trace_script.specs.RunOutput.{ScriptEndsOver}
use Rattle.trace_report.specs.Streams.{streams}
use Rattle.trace_report.specs.laws.Endings.{text_of}
use Rattle.trace_program.proofs.Unanswered.{nothing_answered}
use Rattle.trace_program.proofs.plain.run_plain.Goals as goal

pub returns-in-Err : goal.returns-in-Err
returns-in-Err g c limit =
    let text = text_of (g.R.Read.remaining c.args.input.now) in
    (text.0, text.1, nothing_answered limit c.args.capacity text.0 _ _ _ _ c.fail.result c.fail.ensures)

pub returns-in-Ok : goal.returns-in-Ok
returns-in-Ok g c limit =
    let P : History → Type 0 = λ history. ScriptEndsOver
    (streams (g.A.Write.contents c.args.answers.now) (g.A.Write.contents c.run_script.new.answers)
    (g.F.Write.contents c.args.faults.now) (g.F.Write.contents c.run_script.new.faults))
    (g.R.Read.remaining c.args.input.now) (g.R.Read.remaining c.run_script.new.input) history c.run_script.result in
    (subst P c.in-Ok.ensures c.run_script.ensures).ended limit
