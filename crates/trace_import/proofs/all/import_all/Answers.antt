use Rattle.trace_report.specs.laws.Endings.{text_of}
use Rattle.trace_import.specs.ImportAll.{IsAllOutput}
use Rattle.trace_import.proofs.Endings.{all_good, unread}
use Rattle.trace_import.proofs.all.import_all.Goals as goal

pub returns-in-Err : goal.returns-in-Err
returns-in-Err g c =
    let text = text_of (g.R.Read.remaining c.args.input.now) in
    record {
      text = text.0;
      is_text = text.1;
      ends = unread (IsAllOutput c.args.account c.args.options text.0) c.in-Err.fault _ _ _ c.fail.result
          (all_good c.args.account c.args.options text.0) c.in-Err.ensures (rw c.status.ensures at c.fail.ensures);
    }
