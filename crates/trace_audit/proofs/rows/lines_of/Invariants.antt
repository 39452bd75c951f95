-- What is known is right, and with the lines of the groups that are left it is all lines.
use Rattle.std.proofs.Common.{◌≡◌, ◌++◌, List, ℕ, drop, map}
use Rattle.trace_audit.specs.Audit.{AreLines}
use Rattle.trace_audit.specs.inner.FoundValues.{text_value}
use Rattle.trace_audit.specs.inner.GroupValues.{group_value}
use Rattle.trace_audit.specs.inner.KnownProfiles.{AreFound}
use Rattle.trace_audit.proofs.rows.lines_of.Given as goal

abbrev pub invariant-loop-group : goal.invariant-loop-group
invariant-loop-group l = AreFound (map text_value l.texts) l.known
    × ((others : List ℕ) → AreLines l.format (map text_value l.texts) (map group_value (drop l.group-index l.groups)) others
    → AreLines l.format (map text_value l.texts) (map group_value l.groups) (l.lines.items ++ others))
