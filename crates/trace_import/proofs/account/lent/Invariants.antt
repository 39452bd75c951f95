-- The first names are lent.
use Rattle.std.proofs.Common.{◌≡◌, map, take}
use Rattle.trace_import.proofs.account.lent.Given as goal

abbrev pub invariant-loop-name : goal.invariant-loop-name
invariant-loop-name l = map (λ name. name.now) l.lent.items ≡ map (λ name. name.items) (take l.name-index l.names)
