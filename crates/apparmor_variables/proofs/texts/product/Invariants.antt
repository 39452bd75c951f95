-- The first ones of the firsts were taken.
use Rattle.std.proofs.Common.{◌≡◌, map, take}
use Rattle.apparmor_variables.specs.Variables.{each_with}
use Rattle.apparmor_variables.proofs.texts.product.Given as goal

abbrev pub invariant-loop-first : goal.invariant-loop-first
invariant-loop-first l = map (λ text. text.items) l.texts.items ≡ each_with (map (λ first. first.items) (take l.first-index l.firsts))
    (map (λ second. second.items) l.seconds)
