use Rattle.trace_report.specs.laws.Endings.{text_of}
use Rattle.trace_import.specs.Import.{IsImportOutput}
use Rattle.trace_import.proofs.Endings.{good, unread}
use Rattle.trace_import.proofs.command.import.Goals as goal

pub returns-in-Err : goal.returns-in-Err
returns-in-Err g c =
    let text = text_of (g.R.Read.remaining c.args.input.now) in
    record {
      text = text.0;
      is_text = text.1;
      ends = unread (IsImportOutput c.args.account c.args.options text.0) c.in-Err.fault _ _ _ c.fail.result
          (good c.args.account c.args.options text.0) c.in-Err.ensures (rw c.status.ensures at c.fail.ensures);
    }
