-- A text in which no variable opens is unchanged by putting variables in place.
use Rattle.std.proofs.Common.{◌≡◌, ◌≤◌, ◌-◌, ℕ, Bool, true, false, cond, ◌&&◌, ◌==◌, List, [], ◌∷◌, ◌++◌, length, Some, None, refl, sym}
use Rattle.std.proofs.Common.{ap, ap₂, ◌∙◌, subst, ⊎_elim, append_assoc}
use Rattle.std.specs.List.{flat_map}
use Rattle.std.proofs.lemmas.Bool.{or_parts, cases_eq, ne_eqb}
use Rattle.std.proofs.lemmas.List.{append-nil}
use Rattle.apparmor_variables.specs.PathTexts.{IsSubstituted, text_of}
use Rattle.apparmor_pieces.specs.Pieces.{Text, Piece, byte, escaped, use_of, written, closed_name, used_name, escape, first_piece}
use Rattle.apparmor_pieces.specs.Pieces.{pieces_behind, pieces}
use Rattle.apparmor_variables.specs.Variables.{Variable, Known, list_at, most_bytes}
use Rattle.apparmor_pieces.specs.laws.PieceLaws.{written_again}
use Rattle.apparmor_pieces.specs.laws.PieceSteps.{at_first, plain_first}
use Rattle.import_profile.specs.OneWay.{opens_from, opens_variable}

-- no piece is a use of a variable
abbrev AreBytes : List Piece → Type 0
AreBytes [] = Unit {0}
AreBytes (byte b ∷ more) = AreBytes more
AreBytes (escaped b ∷ more) = AreBytes more
AreBytes (use_of name ∷ more) = ⊥

-- such pieces are put in place as they are written
as_written : (known : Known) (so_far : Text) (more : List Piece) → AreBytes more → text_of known so_far more
    ≡ Some (so_far ++ flat_map written more)
as_written known so_far [] h = ap (λ (t : Text). Some t) (sym (append-nil so_far))
as_written known so_far (byte b ∷ more) h =
    as_written known (so_far ++ (b ∷ [])) more h ∙ ap (λ (t : Text). Some t) (append_assoc so_far (b ∷ []) (flat_map written more))
as_written known so_far (escaped b ∷ more) h =
    as_written known (so_far ++ (92 ∷ b ∷ [])) more h ∙ ap (λ (t : Text). Some t)
    (append_assoc so_far (92 ∷ b ∷ []) (flat_map written more))
as_written known so_far (use_of name ∷ more) h = absurd h

-- the pieces of a text that begins with this byte
begun : (b : ℕ) (bytes : Text) (p : Piece) → first_piece b bytes ≡ p → AreBytes (p ∷ pieces_behind (length (written p) - 1) bytes) →
    AreBytes (pieces_behind 0 (b ∷ bytes))
unfolding pieces_behind
begun b bytes p e h = subst (λ (q : Piece). AreBytes (q ∷ pieces_behind (length (written q) - 1) bytes)) (sym e) h

-- an @ without a { after it begins no use
no_use : (bytes : Text) → opens_from false true bytes ≡ false → used_name bytes ≡ None
no_use [] h = refl
no_use (b ∷ bytes) h = let p = or_parts (b == 123) _ h in ap (λ t. cond t (closed_name bytes) None) p.0

-- how many bytes already belong to a piece: one if a backslash precedes the first byte, else none
abbrev told : Bool → ℕ
told true = 1
told false = 0

bytes_alone : (escaped at : Bool) (text : Text) → opens_from escaped at text ≡ false → AreBytes (pieces_behind (told escaped) text)
unfolding pieces_behind
bytes_alone true at [] h = tt
bytes_alone false at [] h = tt
bytes_alone true at (b ∷ bytes) h = bytes_alone false false bytes (or_parts (at && b == 123) _ h).1
bytes_alone false at (b ∷ bytes) h =
    let rest : opens_from (b == 92) (b == 64) bytes ≡ false = (or_parts (at && b == 123) _ h).1 in
    ⊎_elim
    (λ is.
    let behind : opens_from true false bytes ≡ false = subst (λ (x : ℕ). opens_from (x == 92) (x == 64) bytes ≡ false) is rest in
    begun b bytes (escape bytes) (ap (λ (x : ℕ). first_piece x bytes) is) (behind_backslash bytes (bytes_alone true false bytes behind)))
    (λ no_escape. ⊎_elim
    (λ is.
    let behind : opens_from false true bytes ≡ false = subst (λ (x : ℕ). opens_from (x == 92) (x == 64) bytes ≡ false) is rest in
    begun b bytes (byte 64) (ap (λ (x : ℕ). first_piece x bytes) is ∙ at_first bytes None (no_use bytes behind))
    (bytes_alone false true bytes behind))
    (λ no_at.
    let behind : opens_from false false bytes ≡ false = ap₂ (λ (x y : Bool). opens_from x y bytes) (sym (ne_eqb b 92 no_escape))
    (sym (ne_eqb b 64 no_at)) ∙ rest in
    begun b bytes (byte b) (plain_first b bytes no_escape no_at) (bytes_alone false false bytes behind))
    (cases_eq b 64))
    (cases_eq b 92)
  where
    behind_backslash : (bytes : Text) → AreBytes (pieces_behind 1 bytes) →
        AreBytes (escape bytes ∷ pieces_behind (length (written (escape bytes)) - 1) bytes)
    behind_backslash [] g = tt
    behind_backslash (c ∷ more) g = g

pub is_itself : (variables : List Variable) (text : Text) → opens_variable text ≡ false → length text ≤ most_bytes →
    IsSubstituted variables text text
is_itself variables text h short = record {
  levels = 0;
  is = as_written (list_at 0 variables) [] (pieces text) (bytes_alone false false text h) ∙ ap (λ (t : Text). Some t)
      (written_again 0 text);
  short = short;
}
