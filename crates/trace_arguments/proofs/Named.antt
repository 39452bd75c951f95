-- What a search by name finds.
use Rattle.std.proofs.Common.{◌≡◌, ◌∙◌, ◌||◌, ◌++◌, ℕ, Bool, cond, true, false, refl, List, [], ◌∷◌, map, Some, ap, sym}
use Rattle.std.specs.Prelude.{find, option_map}
use Rattle.std.specs.List.{list_all}
use Rattle.std.specs.Option.{option_or}
use Rattle.std.specs.Str.{bytes_eq}
use Rattle.std.proofs.lemmas.Slice.Eq.{bytes_eq-Decides}
use Rattle.clap.proofs.WalkLemmas.{both}

pub same_name : (name : List ℕ) → bytes_eq name name ≡ true
same_name name = (bytes_eq-Decides name name).1 refl

-- what is found has the name
pub found_name : {A : Type 0} (name_of : A → List ℕ) (name : List ℕ) (xs : List A) (x : A) →
    find (λ y. bytes_eq (name_of y) name) xs ≡ Some x
    → name_of x ≡ name
found_name name_of name [] x e = absurd (cc e)
found_name {A} name_of name (y ∷ ys) x e = go (bytes_eq (name_of y) name) refl (λ is. found_name name_of name ys x is) e
  where
    go : (same : Bool) → bytes_eq (name_of y) name ≡ same → (find (λ y. bytes_eq (name_of y) name) ys ≡ Some x → name_of x ≡ name)
        → cond same (Some y) (find (λ y. bytes_eq (name_of y) name) ys) ≡ Some x → name_of x ≡ name
    go true same behind is = let it : y ≡ x = cc is in ap name_of (sym it) ∙ (bytes_eq-Decides (name_of y) name).0 same
    go false same behind is = behind is

-- what is found passes a test that each element passes
pub found_passes : {A : Type 0} (passes test : A → Bool) (xs : List A) (x : A) → list_all passes xs ≡ true → find test xs ≡ Some x →
    passes x ≡ true
found_passes passes test [] x all e = absurd (cc e)
found_passes {A} passes test (y ∷ ys) x all e =
    let each = both (passes y) (list_all passes ys) all in
    go (test y) each.0 (λ is. found_passes passes test ys x each.1 is) e
  where
    go : (here : Bool) → passes y ≡ true → (find test ys ≡ Some x → passes x ≡ true) → cond here (Some y) (find test ys) ≡ Some x →
        passes x ≡ true
    go true first behind is = let it : y ≡ x = cc is in ap passes (sym it) ∙ first
    go false first behind is = behind is

pub or_false : (b : Bool) → (b || false) ≡ b
or_false true = refl
or_false false = refl

-- a search over what is made of each element, and over some more
pub find_made : {A B : Type 0} (made : A → B) (test : B → Bool) (passes : A → Bool) → ((x : A) → test (made x) ≡ passes x) →
    (xs : List A) (rest : List B)
    → find test (map made xs ++ rest) ≡ option_or (option_map made (find passes xs)) (find test rest)
find_made made test passes same [] rest = refl
find_made {A} {B} made test passes same (x ∷ xs) rest = rw (same x) (go (passes x) (find_made made test passes same xs rest))
  where
    go : (b : Bool) → find test (map made xs ++ rest) ≡ option_or (option_map made (find passes xs)) (find test rest)
        → cond b (Some (made x)) (find test (map made xs ++ rest)) ≡ option_or (option_map made (cond b (Some x) (find passes xs)))
        (find test rest)
    go true e = refl
    go false e = e

pub not_same : (a b : List ℕ) → (a ≡ b → ⊥) → bytes_eq a b ≡ false
not_same a b other = go (bytes_eq a b) refl
  where
    go : (same : Bool) → bytes_eq a b ≡ same → bytes_eq a b ≡ false
    go true e = absurd (other ((bytes_eq-Decides a b).0 e))
    go false e = e
