use Rattle.std.proofs.Common.{inr}
use Rattle.trace_report.specs.laws.Endings.{keeps, text_of}
use Rattle.trace_program.proofs.import.explain_flattened.Goals as goal

pub returns-in_default-clause-output : goal.returns-in_default-clause-output
returns-in_default-clause-output g c =
    let text = text_of (g.R.Read.remaining c.args.input.now) in
    (text.0, text.1, inr (record { answers = keeps (g.A.Write.contents c.args.answers.now); faults = c.fail.ensures }))
