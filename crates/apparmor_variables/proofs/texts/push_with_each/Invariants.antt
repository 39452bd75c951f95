-- The first seconds are appended to the first text.
use Rattle.std.proofs.Common.{◌≡◌, ◌++◌, map, take}
use Rattle.apparmor_variables.proofs.texts.push_with_each.Given as goal

abbrev pub invariant-loop-second : goal.invariant-loop-second
invariant-loop-second l =
    map (λ text. text.items) l.texts.items
    ≡ map (λ text. text.items) l.fn.texts.items ++ map (λ second. l.first ++ second)
    (map (λ second. second.items) (take l.second-index l.seconds))
