-- The parts of a text that is put together from components.
use Rattle.std.proofs.Common.{◌≡◌, ℕ, ◌<◌, ◌-◌, ◌==◌, Bool, true, false, List, [], ◌∷◌, ◌++◌, map, length, sym, refl, ap, ◌∙◌, cond, arith}
use Rattle.std.proofs.Common.{ne_eqb, true≢false}
use Rattle.std.specs.Prelude.{if◌then◌else◌, filter, not}
use Rattle.std.specs.List.{list_any, slice_split, onto_first}
use Rattle.std.proofs.lemmas.List.{append-nil, length-append, get_or_at}
use Rattle.std.proofs.lemmas.List.Elements.{filter-append}
use Rattle.names.specs.Paths.{is_slash, is_empty, filled_parts, ends_with_slash}
use Rattle.names.specs.laws.PathLaws.{split_joined, ends_joined, none_passes}
use Rattle.directory_tree.specs.Components.{slash, dot, is_filled, step_of, steps_of}
use Rattle.std.proofs.lemmas.Bool.{or_parts}

abbrev some : List ℕ → Bool
some part = not (is_empty part)

-- the two tests agree
pub filled_is : (part : List ℕ) → not (is_empty part) ≡ is_filled part
filled_is [] = refl
filled_is (b ∷ part) = ap not (ne_eqb (length (b ∷ part)) 0 (λ e. omega arith))

pub filled_long : (part : List ℕ) → is_filled part ≡ true → 0 < length part
filled_long [] h = absurd (true≢false (sym h))
filled_long (b ∷ part) h = omega arith

parts_one : (c : List ℕ) → list_any (λ b. b == slash) c ≡ false → slice_split is_slash c ≡ c ∷ []
parts_one [] h = refl
parts_one (b ∷ c) h = let k = or_parts _ _ h in
    ap (λ (z : Bool). cond z ([] ∷ slice_split is_slash c) (onto_first b (slice_split is_slash c))) k.0
    ∙ ap (onto_first b) (parts_one c k.1)

-- one more component
pub names_more : (xs c : List ℕ) → is_filled c ≡ true → list_any (λ b. b == slash) c ≡ false → filled_parts (xs ++ slash ∷ c)
    ≡ filled_parts xs ++ c ∷ []
names_more xs c filled none =
    ap (filter some) (split_joined xs c ∙ ap (λ (zs : List (List ℕ)). slice_split is_slash xs ++ zs) (parts_one c none))
    ∙ filter-append some (slice_split is_slash xs) (c ∷ [])
    ∙ ap (λ (b : Bool). filled_parts xs ++ cond b (c ∷ []) []) (filled_is c ∙ filled)

-- a slash at the end
pub names_closed : (xs : List ℕ) → filled_parts (xs ++ slash ∷ []) ≡ filled_parts xs
names_closed xs = ap (filter some) (split_joined xs []) ∙ filter-append some (slice_split is_slash xs) ([] ∷ [])
    ∙ append-nil (filled_parts xs)

pub ends_closed : (xs : List ℕ) → ends_with_slash (xs ++ slash ∷ []) ≡ true
ends_closed xs = ap is_slash (get_or_at xs slash [] 0 (length (xs ++ slash ∷ []) - 1) (omega (arith, length-append xs (slash ∷ []))))

pub ends_open : (xs c : List ℕ) → is_filled c ≡ true → list_any (λ b. b == slash) c ≡ false → ends_with_slash (xs ++ slash ∷ c) ≡ false
ends_open xs c filled none = let long = filled_long c filled in ends_joined xs c long ∙ none_passes is_slash c none
    (length c - 1) 0 (omega arith)

-- the text before the last component has only its filled_parts as components
pub steps_before : (text : List ℕ) → ends_with_slash text ≡ false → steps_of text ≡ map step_of (filled_parts text)
steps_before text unclosed = ap (λ (b : Bool). map step_of (filled_parts text ++ (if b then dot ∷ [] else []))) unclosed ∙ ap (map step_of)
    (append-nil (filled_parts text))
