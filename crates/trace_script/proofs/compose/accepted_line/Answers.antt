use Rattle.std.proofs.Common.{Ok, ◌++◌, codes, decimal}
use Rattle.trace_script.specs.RunOutput.{change_printed}
use Rattle.trace_script.proofs.PrintedLines.{accepted}
use Rattle.trace_script.proofs.Publication.{composed}
use Rattle.trace_script.proofs.compose.accepted_line.Goals as goal

pub returns-in-Ok : goal.returns-in-Ok
returns-in-Ok g c =
    let history = g.B.Bench.history c.args.bench.now in
    let after = g.B.Bench.history c.change.new.self in
    let done = c.in-Ok.ensures.ok in
    let right = accepted _ _ _ c.in-Ok.version done.1 done.0 done.2 in
    composed (change_printed history (Ok c.args.change.now)) after (codes "ok " ++ decimal c.in-Ok.version) c.version_line.result right.0
    right.1 c.version_line.ensures
