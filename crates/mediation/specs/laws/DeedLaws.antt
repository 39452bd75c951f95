-- What is published after some deeds, and then others.
use Rattle.std.proofs.Common.{◌≡◌, List, [], ◌∷◌, ◌++◌, refl}
use Rattle.mediation.specs.Deeds.{Deed, Policy, after_deed, after_deeds}

pub after_both : (policy : Policy) (first later : List Deed) → after_deeds policy (first ++ later)
    ≡ after_deeds (after_deeds policy first) later
after_both policy [] later = refl
after_both policy (deed ∷ first) later = after_both (after_deed policy deed) first later
