-- Variables, found by their places.
use Rattle.std.proofs.Common.{◌≡◌, ℕ, zero, suc, ◌+◌, ◌-◌, ◌<◌, Bool, true, false, cond, List, [], ◌∷◌, ◌++◌, length, set, get_or, Option}
use Rattle.std.proofs.Common.{Some, None, refl, sym, ap, ap₂, ◌∙◌, arith}
use Rattle.std.specs.Prelude.{bytes_eq, is_some, ◌||◌}
use Rattle.std.specs.List.{position_from, list_any}
use Rattle.apparmor_pieces.specs.Pieces.{Text}
use Rattle.apparmor_variables.specs.Variables.{Variable}
use Rattle.apparmor_variables.specs.inner.Known.{place_of}
use Rattle.apparmor_variables.proofs.Places.{find_place, first_of_two, position_from-more}
use Rattle.apparmor_variables.proofs.PlaceSteps.{new_placed}
use Rattle.import_scope.specs.Scopes.{is_declared, with_values}

abbrev named : Text → Variable → Bool
named name v = bytes_eq v.name name

some_from : (name : Text) (n : ℕ) (vs : List Variable) → is_some (position_from (named name) n vs) ≡ list_any (named name) vs
some_from name n [] = refl
some_from name n (v ∷ vs) =
    elim (bytes_eq v.name name) as (λ b. is_some (cond b (Some n) (position_from (named name) (n + 1) vs))
    ≡ (b || list_any (named name) vs)) [
      | true ↦ refl
      | false ↦ some_from name (n + 1) vs
    ]

pub place_if_declared : (vs : List Variable) (name : Text) → is_some (place_of vs name) ≡ is_declared vs name
place_if_declared vs name = some_from name 0 vs

none_is : {A : Type 0} (o : Option A) → is_some o ≡ false → o ≡ None
none_is None h = refl
none_is (Some x) h = absurd cc

pub no_place : (vs : List Variable) (name : Text) → is_declared vs name ≡ false → place_of vs name ≡ None
no_place vs name h = none_is (place_of vs name) (place_if_declared vs name ∙ h)

pub place_within : (vs : List Variable) (name : Text) (place : ℕ) → place_of vs name ≡ Some place → place < length vs
place_within vs name place e = let f = find_place (named name) 0 vs place e in omega (arith, f.within)

-- a variable whose name stays the same leaves all places as they are
names_stay : (q : Text) (n : ℕ) (vs : List Variable) (i : ℕ) (v w : Variable) → v ≡ get_or vs i v → w.name ≡ v.name →
    position_from (named q) n (set vs i w) ≡ position_from (named q) n vs
names_stay q n [] i v w is same = refl
names_stay q n (x ∷ vs) zero v w is same = ap (λ (name : Text). cond (bytes_eq name q) (Some n) (position_from (named q) (n + 1) vs))
    (same ∙ ap (λ (y : Variable). y.name) is)
names_stay q n (x ∷ vs) (suc i) v w is same = ap (λ r. cond (bytes_eq x.name q) (Some n) r) (names_stay q (n + 1) vs i v w is same)

pub places_stay : (vs : List Variable) (i : ℕ) (v w : Variable) → v ≡ get_or vs i v → w.name ≡ v.name → (q : Text) →
    place_of (set vs i w) q ≡ place_of vs q
places_stay vs i v w is same q = names_stay q 0 vs i v w is same

-- with values after those of a variable
longer : (v w : Variable) (more : List Text) → w.name ≡ v.name → w.values ≡ v.values ++ more →
    w ≡ record { name = v.name; values = v.values ++ more }
longer v w more names values = ap₂ (λ (n : Text) (vs : List Text). record { name = n; values = vs }) names values

valued : (name : Text) (more : List Text) (n : ℕ) (vs : List Variable) (place : ℕ) (v w : Variable) →
    position_from (named name) n vs ≡ Some place
    → v ≡ get_or vs (place - n) v → w.name ≡ v.name → w.values ≡ v.values ++ more → set vs (place - n) w ≡ with_values vs name more
valued name more n [] place v w e is names values = absurd cc
valued name more n (x ∷ vs) place v w e is names values =
    let P : (b : Bool) → cond b (Some n) (position_from (named name) (n + 1) vs) ≡ Some place
    → set (x ∷ vs) (place - n) w ≡ cond b (record { name = x.name; values = x.values ++ more } ∷ vs) (x ∷ with_values vs name more) = λ b.
    elim b as (λ b. cond b (Some n) (position_from (named name) (n + 1) vs) ≡ Some place
    → set (x ∷ vs) (place - n) w ≡ cond b (record { name = x.name; values = x.values ++ more } ∷ vs) (x ∷ with_values vs name more)) [
      | true ↦ λ h.
          let same : n ≡ place = cc in
          let zeroth : place - n ≡ 0 = omega arith in
          let is_x : v ≡ x = is ∙ ap (λ (k : ℕ). get_or (x ∷ vs) k v) zeroth in
          ap (λ (k : ℕ). set (x ∷ vs) k w) zeroth ∙ ap (λ (y : Variable). y ∷ vs)
          (longer v w more names values ∙ ap (λ (y : Variable). record { name = y.name; values = y.values ++ more }) is_x)
      | false ↦ λ h.
          let f = find_place (named name) (n + 1) vs place h in
          let next : place - n ≡ suc (place - (n + 1)) = omega (arith, f.from) in
          ap (λ (k : ℕ). set (x ∷ vs) k w) next ∙ ap (λ (r : List Variable). x ∷ r)
          (valued name more (n + 1) vs place v w h (is ∙ ap (λ (k : ℕ). get_or (x ∷ vs) k v) next) names values)
    ] in
    P (bytes_eq x.name name) e

pub values_added : (vs : List Variable) (name : Text) (more : List Text) (place : ℕ) (v w : Variable) → place_of vs name ≡ Some place
    → v ≡ get_or vs place v → w.name ≡ v.name → w.values ≡ v.values ++ more → set vs place w ≡ with_values vs name more
values_added vs name more place v w e is names values =
    let same : place ≡ place - 0 = omega arith in
    ap (λ (k : ℕ). set vs k w) same ∙ valued name more 0 vs place v w e (is ∙ ap (λ (k : ℕ). get_or vs k v) same) names values

none_from : (name : Text) (more : List Text) (n : ℕ) (vs : List Variable) → position_from (named name) n vs ≡ None →
    vs ≡ with_values vs name more
none_from name more n [] e = refl
none_from name more n (x ∷ vs) e =
    let P : (b : Bool) → cond b (Some n) (position_from (named name) (n + 1) vs) ≡ None
    → x ∷ vs ≡ cond b (record { name = x.name; values = x.values ++ more } ∷ vs) (x ∷ with_values vs name more) = λ b.
    elim b as (λ b. cond b (Some n) (position_from (named name) (n + 1) vs) ≡ None
    → x ∷ vs ≡ cond b (record { name = x.name; values = x.values ++ more } ∷ vs) (x ∷ with_values vs name more)) [
      | true ↦ λ h. absurd cc
      | false ↦ λ h. ap (λ (r : List Variable). x ∷ r) (none_from name more (n + 1) vs h)
    ] in
    P (bytes_eq x.name name) e

pub nothing_added : (vs : List Variable) (name : Text) (more : List Text) → place_of vs name ≡ None → vs ≡ with_values vs name more
nothing_added vs name more e = none_from name more 0 vs e

-- one more variable
pub place_of_one_more : (old new : Text → Option ℕ) (vs : List Variable) (v : Variable) → ((q : Text) → old q ≡ place_of vs q) →
    is_declared vs v.name ≡ false
    → ((q : Text) → new q ≡ cond (bytes_eq v.name q) (Some (length vs)) (old q)) → (q : Text) → new q ≡ place_of (vs ++ v ∷ []) q
place_of_one_more old new vs v were fresh is q =
    new_placed old new v.name q (length vs) (were v.name ∙ no_place vs v.name fresh) (is q)
    ∙ ap (λ o. first_of_two o (cond (bytes_eq v.name q) (Some (length vs)) None)) (were q)
    ∙ sym (position_from-more (named q) 0 vs v ∙ ap (λ k. first_of_two (place_of vs q) (cond (bytes_eq v.name q) (Some k) None))
    (omega arith))
