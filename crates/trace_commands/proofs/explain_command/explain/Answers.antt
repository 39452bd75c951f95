use Rattle.std.proofs.Common.{◌≡◌, Ok}
use Rattle.trace_report.specs.laws.Endings.{ends_told}
use Rattle.trace_report.specs.ReadStreams.{ask_of}
use Rattle.trace_commands.proofs.ExplainEndings.{explained_so}
use Rattle.trace_commands.proofs.explain_command.explain.Goals as goal

pub returns-in-Ok-clause-output : goal.returns-in-Ok-clause-output
returns-in-Ok-clause-output g c =
    let asked = c.in-Ok.ensures.output in
    let good : (ask_of c.args.perms.now c.args.name.now ≡ Ok c.in-Ok.ask) × (asked.0 ≡ c.in-Ok.text.items) = asked.2 c.args.format in (
      asked.0,
      asked.1,
      explained_so c.args.format _ c.args.perms.now c.args.name.now asked.0 c.deref.result.now
          c.in-Ok.text.items c.in-Ok.ask c.explain_text.result good.0 good.1 c.deref.ensures.value c.explain_text.ensures,
    )

pub returns-in-Err-clause-output : goal.returns-in-Err-clause-output
returns-in-Err-clause-output g c =
    let asked = c.in-Err.ensures.output in
    (asked.0, asked.1, ends_told _ _ _ _ c.in-Err.fault c.fail.result (asked.2 c.args.format) (rw c.status.ensures at c.fail.ensures))
