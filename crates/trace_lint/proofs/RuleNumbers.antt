-- What is said of each rule, by numbers from 1 on.
use Rattle.std.proofs.Common.{◌≡◌, ℕ, zero, suc, ◌+◌, List, [], ◌∷◌, ◌++◌, ap, ◌∙◌, arith, append-nil}
use Rattle.std.specs.List.{flat_map, range_with_len}
use Rattle.std.proofs.lemmas.List.Concat.{flat_map-append}

range_more : (a n : ℕ) → range_with_len a (n + 1) ≡ range_with_len a n ++ (a + n) ∷ []
range_more a zero = let e : a ≡ a + 0 = omega arith in ap (λ z. z ∷ []) e
range_more a (suc n) =
    let e : a + 1 + n ≡ a + suc n = omega arith in
    let more : suc n + 1 ≡ suc (n + 1) = omega arith in
    ap (range_with_len a) more ∙ ap (λ z. a ∷ z) (range_more (a + 1) n ∙ ap (λ z. range_with_len (a + 1) n ++ z ∷ []) e)

pub each_more : {X : Type 0} (f : ℕ → List X) (n : ℕ) →
    flat_map f (range_with_len 1 (n + 1)) ≡ flat_map f (range_with_len 1 n) ++ f (n + 1)
each_more f n =
    let e : 1 + n ≡ n + 1 = omega arith in
    ap (flat_map f) (range_more 1 n ∙ ap (λ z. range_with_len 1 n ++ z ∷ []) e)
    ∙ flat_map-append f (range_with_len 1 n) ((n + 1) ∷ [])
    ∙ ap (λ z. flat_map f (range_with_len 1 n) ++ z) (append-nil (f (n + 1)))
