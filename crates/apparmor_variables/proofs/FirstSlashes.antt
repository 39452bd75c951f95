-- Whether a text begins with a slash, by its first byte.
use Rattle.std.proofs.Common.{◌≡◌, ℕ, ◌-◌, ◌≤◌, false, List, [], ◌∷◌, length, get_or, Option, Some, None, refl, sym, ap, ◌∙◌, subst}
use Rattle.std.proofs.Common.{⊎_elim, arith}
use Rattle.std.proofs.lemmas.Bool.{cases_eq}
use Rattle.names.specs.Paths.{is_slash}
use Rattle.apparmor_variables.specs.PathTexts.{begins_with_slash}
use Rattle.apparmor_pieces.specs.Pieces.{Text, Piece, written, used_name, escape, first_piece, pieces_behind, pieces}
use Rattle.apparmor_pieces.specs.laws.PieceSteps.{at_sign, at_first, plain_first, no_pieces}

escape_slash : (bytes : Text) (more : List Piece) → begins_with_slash (escape bytes ∷ more) ≡ false
escape_slash [] more = refl
escape_slash (b ∷ bytes) more = refl

at_slash : (o : Option Text) (more : List Piece) → begins_with_slash (at_sign o ∷ more) ≡ false
at_slash None more = refl
at_slash (Some name) more = refl

first_slash : (b : ℕ) (bytes : Text) (more : List Piece) → begins_with_slash (first_piece b bytes ∷ more) ≡ is_slash b
first_slash b bytes more =
    ⊎_elim
    (λ same. subst (λ (x : ℕ). begins_with_slash (first_piece x bytes ∷ more) ≡ is_slash x) (sym same) (escape_slash bytes more))
    (λ no_escape. ⊎_elim
    (λ same. subst (λ (x : ℕ). begins_with_slash (first_piece x bytes ∷ more) ≡ is_slash x) (sym same)
    (ap (λ (p : Piece). begins_with_slash (p ∷ more)) (at_first bytes (used_name bytes) refl) ∙ at_slash (used_name bytes) more))
    (λ no_at. ap (λ (p : Piece). begins_with_slash (p ∷ more)) (plain_first b bytes no_escape no_at))
    (cases_eq b 64))
    (cases_eq b 92)

pub text_slash : (text : Text) → 1 ≤ length text → begins_with_slash (pieces text) ≡ is_slash (get_or text 0 0)
unfolding pieces_behind
text_slash [] some = absurd (omega arith)
text_slash (b ∷ bytes) some = first_slash b bytes (pieces_behind (length (written (first_piece b bytes)) - 1) bytes)

pub no_slash : (text : Text) → text ≡ [] → begins_with_slash (pieces text) ≡ false
no_slash text e = ap begins_with_slash (no_pieces text e)
