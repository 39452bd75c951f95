use Rattle.std.proofs.Common.{Ok}
use Rattle.trace_report.specs.laws.Endings.{one_told, text_of}
use Rattle.trace_import.specs.ExplainFlattened.{IsAskedOutput, IsExplainOutput}
use Rattle.trace_import.proofs.Endings.{asked_rightly, asked_wrongly, explained_good, unread}
use Rattle.trace_import.proofs.explain.explain_flattened.Goals as goal

pub returns-in-Err-clause-output : goal.returns-in-Err-clause-output
returns-in-Err-clause-output g c =
    let text = text_of (g.R.Read.remaining c.args.input.now) in
    record {
      text = text.0;
      is_text = text.1;
      ends = one_told _ _ _ (IsExplainOutput c.args.format c.args.options c.args.perms.now c.args.name.now text.0) c.in-Err.fault
          c.fail.result (asked_wrongly c.args.format c.args.options c.args.perms.now c.args.name.now text.0 c.in-Err.fault
          c.in-Err.ensures.0 c.in-Err.ensures.1) (rw c.status.ensures at c.fail.ensures);
    }

pub returns-in-Err-read_all-clause-output : goal.returns-in-Err-read_all-clause-output
returns-in-Err-read_all-clause-output g c =
    let text = text_of (g.R.Read.remaining c.args.input.now) in
    let ask = c.in-Ok.ask in
    record {
      text = text.0;
      is_text = text.1;
      ends = asked_rightly _ c.args.format c.args.options c.args.perms.now c.args.name.now text.0 ask c.fail-in-Err-read_all.result
          c.in-Ok.ensures
          (unread (IsAskedOutput c.args.format c.args.options (Ok ask) c.args.name.now text.0) c.in-Err-read_all.fault _ _ _
          c.fail-in-Err-read_all.result (explained_good c.args.format c.args.options ask c.args.name.now text.0)
          c.in-Err-read_all.ensures (rw c.status-in-Err-read_all.ensures at c.fail-in-Err-read_all.ensures));
    }
