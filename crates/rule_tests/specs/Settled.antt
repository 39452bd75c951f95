-- Prefixes of texts, by whether their fault is settled.
use Rattle.std.specs.Prelude.{ℕ, List, [], ◌∷◌, codes}

abbrev pub settled_fronts : List (List ℕ)
settled_fronts =
    codes "prof " ∷ codes "profile p {all " ∷ codes "profile p {/x,}" ∷ codes "profile p {/x ," ∷ codes "profile p {/[a "
    ∷ codes "profile p {/[b-a" ∷ codes "profile p {/{a " ∷ codes "profile p {/x}" ∷ codes "profile p {/x\\a"
    ∷ codes "profile p {#include <" ∷ codes "profile p {r x" ∷ codes "profile p {/x rx," ∷ codes "profile p {/x wa,"
    ∷ codes "profile p {wa\"" ∷ []

abbrev pub unsettled_fronts : List (List ℕ)
unsettled_fronts =
    codes "" ∷ codes "prof" ∷ codes "profile p" ∷ codes "profile p {al " ∷ codes "profile p {all" ∷ codes "profile p {/x,"
    ∷ codes "profile p {/[a" ∷ codes "profile p {/{a" ∷ codes "profile p {/x\\" ∷ codes "profile p {/x rx" ∷ codes "profile p {/x q"
    ∷ codes "profile p {/x wa" ∷ codes "profile p {wa" ∷ []
