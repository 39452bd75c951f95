-- Finite maps from names to what profiles say.
use Rattle.std.specs.Ordering.{nat_cmp}
use Rattle.std.specs.Cmp.Lexicographic.{slice_cmp}
use Rattle.std.specs.FinMap.{FinMap, insert, remove}
use Rattle.mediation.specs.Deeds.{Deed, published, removed}
use Rattle.mediation.specs.Judge.{Judge}

abbrev pub Profiles : Type 0
Profiles = FinMap (slice_cmp nat_cmp) Judge

abbrev pub profiles_after : Profiles → Deed → Profiles
profiles_after profiles (published name judge) = insert profiles name judge
profiles_after profiles (removed name) = remove profiles name
