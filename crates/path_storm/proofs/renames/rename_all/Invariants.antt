use Rattle.path_storm.specs.Logs.{IsTreeLog}
use Rattle.path_storm.proofs.renames.rename_all.Given as goal

-- the renames so far were tried
abbrev pub invariant-loop-rename : goal.invariant-loop-rename
invariant-loop-rename g l = IsTreeLog l.rename l.log
