-- Runs of slashes that are already a single one.
use Rattle.std.proofs.Common.{◌≡◌, ℕ, Bool, true, false, cond, [], ◌∷◌, refl, sym, ap, ◌∙◌, subst}
use Rattle.std.specs.Prelude.{◌&&◌, not}
use Rattle.std.proofs.lemmas.Bool.{eqb-true}
use Rattle.names.specs.Paths.{is_slash}
use Rattle.apparmor_pieces.specs.Pieces.{Text, begins}
use Rattle.apparmor_pieces.specs.Slashes.{runs_joined, begins_with_two, one_slash}

first_holds : (a b : Bool) → a && b ≡ true → a ≡ true
first_holds true b h = refl
first_holds false b h = absurd cc

second_holds : (a b : Bool) → a && b ≡ true → b ≡ true
second_holds true b h = h
second_holds false b h = absurd cc

pub joined_again : (behind : Bool) (text : Text) → runs_joined behind (runs_joined behind text) ≡ runs_joined behind text
joined_again behind [] = refl
joined_again behind (b ∷ bytes) =
    let P : (t : Bool) → behind && is_slash b ≡ t →
    runs_joined behind (cond t (runs_joined true bytes) (b ∷ runs_joined (is_slash b) bytes)) ≡ cond t (runs_joined true bytes)
    (b ∷ runs_joined (is_slash b) bytes) =
    λ t. elim t as (λ t. behind && is_slash b ≡ t →
    runs_joined behind (cond t (runs_joined true bytes) (b ∷ runs_joined (is_slash b) bytes)) ≡ cond t (runs_joined true bytes)
    (b ∷ runs_joined (is_slash b) bytes)) [
      | true ↦ λ h. let is : behind ≡ true = first_holds behind (is_slash b) h in
          subst (λ (x : Bool). runs_joined x (runs_joined true bytes) ≡ runs_joined true bytes) (sym is) (joined_again true bytes)
      | false ↦ λ h. ap (λ t. cond t (runs_joined true (runs_joined (is_slash b) bytes))
          (b ∷ runs_joined (is_slash b) (runs_joined (is_slash b) bytes))) h ∙ ap (λ (x : Text). b ∷ x) (joined_again (is_slash b) bytes)
    ] in
    P (behind && is_slash b) refl

-- after a slash no slash comes first
no_slash_first : (text : Text) → begins is_slash (runs_joined true text) ≡ false
no_slash_first [] = refl
no_slash_first (b ∷ bytes) =
    let P : (t : Bool) → is_slash b ≡ t → begins is_slash (cond t (runs_joined true bytes) (b ∷ runs_joined (is_slash b) bytes)) ≡ false =
    λ t. elim t as (λ t. is_slash b ≡ t → begins is_slash (cond t (runs_joined true bytes) (b ∷ runs_joined (is_slash b) bytes)) ≡ false)
    [ true ↦ λ h. no_slash_first bytes | false ↦ λ h. h ] in
    P (is_slash b) refl

one_behind : (b : ℕ) (text : Text) → is_slash b ≡ false → begins is_slash text ≡ false → begins_with_two (47 ∷ text) ≡ false
one_behind b [] h g = refl
one_behind b (c ∷ text) h g = ap (λ t. t && not (begins is_slash text)) g

other_first : (b : ℕ) (text : Text) → is_slash b ≡ false → begins_with_two (b ∷ text) ≡ false
other_first b [] h = refl
other_first b (c ∷ text) h = ap (λ t. t && is_slash c && not (begins is_slash text)) h

-- two slashes are left nowhere
none_left : (text : Text) → begins_with_two (runs_joined false text) ≡ false
none_left [] = refl
none_left (b ∷ bytes) =
    let P : (t : Bool) → is_slash b ≡ t → begins_with_two (b ∷ runs_joined t bytes) ≡ false =
    λ t. elim t as (λ t. is_slash b ≡ t → begins_with_two (b ∷ runs_joined t bytes) ≡ false) [
      | true ↦ λ h. let same : b ≡ 47 = eqb-true b 47 h in subst (λ (x : ℕ). begins_with_two (x ∷ runs_joined true bytes) ≡ false)
          (sym same) (one_behind 0 (runs_joined true bytes) refl (no_slash_first bytes))
      | false ↦ λ h. other_first b (runs_joined false bytes) h
    ] in
    P (is_slash b) refl

stays_one : (text : Text) → one_slash (runs_joined false text) ≡ runs_joined false text
stays_one text = ap (λ t. cond t (47 ∷ runs_joined false (runs_joined false text)) (runs_joined false (runs_joined false text)))
    (none_left text) ∙ joined_again false text

-- exactly two at the start
two_first : (text : Text) → begins_with_two text ≡ true → (rest : Text) × (text ≡ 47 ∷ 47 ∷ rest)
two_first [] h = absurd cc
two_first (a ∷ []) h = absurd cc
two_first (a ∷ b ∷ rest) h =
    let both = first_holds (is_slash a && is_slash b) (not (begins is_slash rest)) h in
    let one = first_holds (is_slash a) (is_slash b) both in
    let two = second_holds (is_slash a) (is_slash b) both in
    (rest, λ i. eqb-true a 47 one i ∷ eqb-true b 47 two i ∷ rest)

stays_two : (rest : Text) → one_slash (47 ∷ runs_joined false (47 ∷ 47 ∷ rest)) ≡ 47 ∷ runs_joined false (47 ∷ 47 ∷ rest)
stays_two rest =
    ap (λ t. cond (not t) (47 ∷ 47 ∷ runs_joined true (runs_joined true rest)) (47 ∷ runs_joined true (runs_joined true rest)))
    (no_slash_first rest)
    ∙ ap (λ (x : Text). 47 ∷ 47 ∷ x) (joined_again true rest)

pub slashes_stay : (text : Text) → one_slash (one_slash text) ≡ one_slash text
slashes_stay text =
    let P : (t : Bool) → begins_with_two text ≡ t → one_slash (cond t (47 ∷ runs_joined false text) (runs_joined false text))
    ≡ cond t (47 ∷ runs_joined false text) (runs_joined false text) =
    λ t. elim t as (λ t. begins_with_two text ≡ t → one_slash (cond t (47 ∷ runs_joined false text) (runs_joined false text))
    ≡ cond t (47 ∷ runs_joined false text) (runs_joined false text)) [
      | true ↦ λ h. let r = two_first text h in subst (λ (x : Text). one_slash (47 ∷ runs_joined false x) ≡ 47 ∷ runs_joined false x)
          (sym r.1) (stays_two r.0)
      | false ↦ λ h. stays_one text
    ] in
    P (begins_with_two text) refl
