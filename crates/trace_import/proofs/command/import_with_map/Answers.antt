use Rattle.std.proofs.Common.{inl}
use Rattle.trace_report.specs.laws.Endings.{text_of}
use Rattle.trace_import.specs.Import.{IsImportOutput}
use Rattle.trace_import.proofs.Endings.{failed_not_done, good, mapless, unread}
use Rattle.trace_import.proofs.command.import_with_map.Goals as goal

pub returns-in-Err : goal.returns-in-Err
returns-in-Err g c =
    let text = text_of (g.R.Read.remaining c.args.input.now) in
    let told = rw c.status.ensures at c.fail.ensures in
    record {
      text = text.0;
      is_text = text.1;
      ends = unread (IsImportOutput c.args.account c.args.options text.0) c.in-Err.fault _ _ _ c.fail.result
          (good c.args.account c.args.options text.0) c.in-Err.ensures told;
      map = inl (mapless _ _ _ _ c.fail.result (failed_not_done _ _ c.in-Err.fault c.fail.result c.in-Err.ensures told));
    }
