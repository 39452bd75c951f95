-- The first texts have the bytes appended.
use Rattle.std.proofs.Common.{◌≡◌, ◌++◌, map, take, drop}
use Rattle.apparmor_variables.proofs.texts.extend_each.Given as goal

abbrev pub invariant-loop-text : goal.invariant-loop-text
invariant-loop-text l =
    map (λ text. text.items) l.text-items
    ≡ map (λ text. text ++ l.end) (take l.text-index (map (λ text. text.items) l.fn.texts.items)) ++ drop l.text-index
    (map (λ text. text.items) l.fn.texts.items)
