-- The names of the first heads.
use Rattle.std.proofs.Common.{◌≡◌, map, take}
use Rattle.import_profile.proofs.choice.names_of.Given as goal

abbrev pub invariant-loop-head : goal.invariant-loop-head
invariant-loop-head l = map (λ name. name.items) l.names.items ≡ map (λ head. head.name) (take l.head-index l.heads)
