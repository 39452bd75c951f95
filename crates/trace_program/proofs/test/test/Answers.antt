use Rattle.std.proofs.Common.{ℕ, List, subst}
use Rattle.mediation.specs.History.{History}
use Rattle.trace_report.specs.Streams.{IsTextOf, streams}
use Rattle.trace_report.specs.laws.Endings.{text_of}
use Rattle.trace_test.specs.TestOutput.{TestEnds}
use Rattle.trace_program.proofs.Unanswered.{nothing_tested}
use Rattle.trace_program.proofs.test.test.Goals as goal

pub returns-in-Err : goal.returns-in-Err
returns-in-Err g c limit =
    let text = text_of (g.R.Read.remaining c.args.input.now) in
    (text.0, text.1, nothing_tested c.args.options limit c.args.capacity text.0 _ _ _ _ c.fail.result c.fail.ensures)

pub returns-in-Ok : goal.returns-in-Ok
returns-in-Ok g c limit =
    let P : History → Type 0 = λ history. (text : List ℕ) × IsTextOf (g.R.Read.remaining c.args.input.now) text × TestEnds c.args.options
    limit
    (streams (g.A.Write.contents c.args.answers.now) (g.A.Write.contents c.run_test-status.new.answers)
    (g.F.Write.contents c.args.faults.now) (g.F.Write.contents c.run_test-status.new.faults))
    (g.R.Read.remaining c.args.input.now) (g.R.Read.remaining c.run_test-status.new.input) history text c.run_test-status.result in
    subst P c.in-Ok.ensures (c.run_test-status.ensures limit)
