-- The names so far were added.
use Rattle.std.proofs.Common.{◌≡◌, ◌++◌, map, take}
use Rattle.std.specs.Prelude.{flat_map}
use Rattle.trace_import.specs.RefusalLines.{name_line}
use Rattle.trace_import.proofs.refusal.put_names.Given as goal

abbrev pub invariant-loop-name : goal.invariant-loop-name
invariant-loop-name l = l.text.items ≡ l.initial.text.items ++ flat_map name_line (map (λ name. name.now) (take l.name-index l.names))
