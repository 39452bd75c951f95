-- The first variables are found.
use Rattle.std.proofs.Common.{◌≡◌, ℕ, List, take}
use Rattle.std.specs.BTreeMap.{get_by}
use Rattle.std.specs.Cmp.Lexicographic.{slice_cmp}
use Rattle.std.specs.Ordering.{nat_cmp}
use Rattle.apparmor_variables.specs.inner.Known.{place_of}
use Rattle.apparmor_variables.proofs.declared.places_of.Given as goal

abbrev pub invariant-loop-place : goal.invariant-loop-place
invariant-loop-place l = (name : List ℕ) → get_by (λ key. slice_cmp nat_cmp name key.items) l.places
    ≡ place_of (take l.place l.variables) name
