use Rattle.path_storm.specs.Logs.{IsPolicyLog}
use Rattle.path_storm.proofs.replacements.replace_all.Given as goal

-- the replacements so far were tried
abbrev pub invariant-loop-change : goal.invariant-loop-change
invariant-loop-change g l = IsPolicyLog l.change l.log
