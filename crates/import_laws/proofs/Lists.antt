-- What holds of each element of a list.
use Rattle.std.proofs.Common.{List, [], ◌∷◌, ◌++◌, map}
use Rattle.std.specs.List.{flat_map}
use Rattle.rule_globs.specs.Each.{Each}

pub each_append : {A : Type 0} (P : A → Type 0) (xs ys : List A) → Each P xs → Each P ys → Each P (xs ++ ys)
each_append P [] ys h g = g
each_append P (x ∷ xs) ys h g = (h.0, each_append P xs ys h.1 g)

-- what holds of all that elements are made into
pub each_made : {A B : Type 0} (P : A → Type 0) (Q : B → Type 0) (f : A → List B) (xs : List A) → ((x : A) → P x → Each Q (f x)) →
    Each P xs → Each Q (flat_map f xs)
each_made P Q f [] g h = tt
each_made P Q f (x ∷ xs) g h = each_append Q (f x) (flat_map f xs) (g x h.0) (each_made P Q f xs g h.1)

pub each_mapped : {A B : Type 0} (P : A → Type 0) (Q : B → Type 0) (f : A → B) (xs : List A) → ((x : A) → P x → Q (f x)) →
    Each P xs → Each Q (map f xs)
each_mapped P Q f [] g h = tt
each_mapped P Q f (x ∷ xs) g h = (g x h.0, each_mapped P Q f xs g h.1)
