use Rattle.std.proofs.Common.{◌≡◌, false, true, drop}
use Rattle.audit_log.specs.Fields.{after_key}
use Rattle.audit_log.proofs.fields.after_key.Given as goal

-- what is left of the line leads to the same value
abbrev pub invariant-loop-i : goal.invariant-loop-i
invariant-loop-i l = after_key l.key l.front l.quoted (drop l.i l.line) ≡ after_key l.key true false l.line
