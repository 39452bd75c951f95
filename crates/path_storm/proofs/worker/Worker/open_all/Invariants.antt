use Rattle.std.proofs.Common.{◌≡◌}
use Rattle.path_storm.specs.Logs.{IsOpenedBy}
use Rattle.path_storm.proofs.worker.Worker.open_all.Given as goal

-- the session stays one of the guard's row, and has opened as often as was counted
abbrev pub invariant-loop-call : goal.invariant-loop-call
invariant-loop-call g l = record {
  ours : l.session.walk.table ≡ g.M.Row.table;
  opened : IsOpenedBy l.ask l.call (record { session = l.session; answers = l.answers });
}
