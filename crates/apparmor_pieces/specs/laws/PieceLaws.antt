-- The pieces of a text, written out, are the text.
use Rattle.std.proofs.Common.{◌≡◌, ℕ, zero, suc, ◌+◌, ◌-◌, Bool, true, false, cond, eqb, [], ◌∷◌, ◌++◌, length, drop, take, Option, Some}
use Rattle.std.proofs.Common.{None, refl, sym, ap, ◌∙◌, subst, ⊎_elim, append_assoc, arith}
use Rattle.std.specs.Prelude.{◌&&◌}
use Rattle.std.specs.Char.{is_ascii_alphabetic}
use Rattle.std.specs.List.{flat_map, prefix_len, take_while}
use Rattle.std.proofs.lemmas.List.{take-append-drop}
use Rattle.std.proofs.lemmas.Bool.{eqb-true, cases_eq}
use Rattle.apparmor_pieces.specs.Pieces.{Text, Piece, use_of, written, begins, is_name_byte, is_close_brace, closed_name, used_name}
use Rattle.apparmor_pieces.specs.Pieces.{escape, first_piece, pieces_behind}
use Rattle.apparmor_pieces.specs.laws.PieceSteps.{at_sign, at_first, plain_first, use_length}

both_hold : (a b : Bool) → a && b ≡ true → b ≡ true
both_hold true b h = h
both_hold false b h = absurd cc

brace : (bytes : Text) → begins is_close_brace bytes ≡ true → (rest : Text) × (bytes ≡ 125 ∷ rest)
brace [] h = absurd cc
brace (b ∷ bytes) h = (bytes, ap (λ (x : ℕ). x ∷ bytes) (eqb-true b 125 h))

-- a closed name is at the front, followed by its brace
closed_front : (bytes name : Text) → closed_name bytes ≡ Some name → (rest : Text) × (bytes ≡ name ++ 125 ∷ rest)
closed_front bytes name e =
    let n = prefix_len is_name_byte bytes in
    let test = begins is_ascii_alphabetic bytes && begins is_close_brace (drop n bytes) in
    let P : (t : Bool) → test ≡ t → cond t (Some (take_while is_name_byte bytes)) None ≡ Some name → (rest : Text)
    × (bytes ≡ name ++ 125 ∷ rest) =
    λ t. elim t as (λ t. test ≡ t → cond t (Some (take_while is_name_byte bytes)) None ≡ Some name → (rest : Text)
    × (bytes ≡ name ++ 125 ∷ rest)) [
      | true ↦ λ h g.
          let r = brace (drop n bytes) (both_hold (begins is_ascii_alphabetic bytes) (begins is_close_brace (drop n bytes)) h) in
          let is : take n bytes ≡ name = cc in
          (r.0, sym (take-append-drop n bytes) ∙ (λ i. is i ++ r.1 i))
      | false ↦ λ h g. absurd cc
    ] in
    P test refl e

used_front : (bytes name : Text) → used_name bytes ≡ Some name → (rest : Text) × (bytes ≡ 123 ∷ name ++ 125 ∷ rest)
used_front [] name e = absurd cc
used_front (b ∷ bytes) name e =
    let P : (t : Bool) → eqb b 123 ≡ t → cond t (closed_name bytes) None ≡ Some name → (rest : Text)
    × (b ∷ bytes ≡ 123 ∷ name ++ 125 ∷ rest) =
    λ t. elim t as (λ t. eqb b 123 ≡ t → cond t (closed_name bytes) None ≡ Some name → (rest : Text)
    × (b ∷ bytes ≡ 123 ∷ name ++ 125 ∷ rest)) [
      | true ↦ λ h g. let r = closed_front bytes name g in (r.0, λ i. eqb-true b 123 h i ∷ r.1 i)
      | false ↦ λ h g. absurd cc
    ] in
    P (eqb b 123) refl e

drop_behind : (xs rest : Text) (y n : ℕ) → n ≡ length xs + 1 → drop n (xs ++ y ∷ rest) ≡ rest
drop_behind [] rest y n is = let one : n ≡ 1 = omega arith in ap (λ k. drop k (y ∷ rest)) one
drop_behind (x ∷ xs) rest y n is =
    let m = length xs + 1 in
    let more : n ≡ suc m = omega arith in
    ap (λ k. drop k (x ∷ xs ++ y ∷ rest)) more ∙ drop_behind xs rest y m refl

-- a piece is at the front of its text
abbrev IsFront : Piece → ℕ → Text → Type 0
IsFront p b bytes = written p ++ drop (length (written p) - 1) bytes ≡ b ∷ bytes

escape_front : (bytes : Text) → IsFront (escape bytes) 92 bytes
escape_front [] = refl
escape_front (b ∷ bytes) = refl

at_front : (bytes : Text) (o : Option Text) → used_name bytes ≡ o → IsFront (at_sign o) 64 bytes
at_front bytes None e = refl
at_front bytes (Some name) e =
    let r = used_front bytes name e in
    let n : length (written (use_of name)) - 1 ≡ length name + 2 = use_length name in
    let behind : drop (length (written (use_of name)) - 1) bytes ≡ r.0 =
    ap (λ (t : Text). drop (length (written (use_of name)) - 1) t) r.1 ∙ drop_behind (123 ∷ name) r.0 125
    (length (written (use_of name)) - 1) (omega (arith, n)) in
    ap (λ (t : Text). written (use_of name) ++ t) behind ∙ ap (λ (t : Text). 64 ∷ 123 ∷ t) (append_assoc name (125 ∷ []) r.0)
    ∙ ap (λ (t : Text). 64 ∷ t) (sym r.1)

front : (b : ℕ) (bytes : Text) → IsFront (first_piece b bytes) b bytes
front b bytes =
    ⊎_elim
    (λ same. subst (λ (x : ℕ). IsFront (first_piece x bytes) x bytes) (sym same) (escape_front bytes))
    (λ no_escape. ⊎_elim
    (λ same. subst (λ (x : ℕ). IsFront (first_piece x bytes) x bytes) (sym same)
    (subst (λ (p : Piece). IsFront p 64 bytes) (sym (at_first bytes (used_name bytes) refl)) (at_front bytes (used_name bytes) refl)))
    (λ no_at. subst (λ (p : Piece). IsFront p b bytes) (sym (plain_first b bytes no_escape no_at)) refl)
    (cases_eq b 64))
    (cases_eq b 92)

pub written_again : (n : ℕ) (text : Text) → flat_map written (pieces_behind n text) ≡ drop n text
unfolding pieces_behind
written_again zero [] = refl
written_again (suc n) [] = refl
written_again zero (b ∷ bytes) =
    let p = first_piece b bytes in
    ap (λ (t : Text). written p ++ t) (written_again (length (written p) - 1) bytes) ∙ front b bytes
written_again (suc n) (b ∷ bytes) = written_again n bytes
