-- Pieces, one at a time.
use Rattle.std.proofs.Common.{◌≡◌, ◌≢◌, ℕ, zero, suc, ◌+◌, ◌-◌, ◌≤◌, false, cond, eqb, List, [], ◌∷◌, length, drop, take, get_or, Option}
use Rattle.std.proofs.Common.{Some, None, refl, sym, ap, ◌∙◌, subst, ⊎_elim, arith, length-append}
use Rattle.std.proofs.lemmas.List.{take_rest}
use Rattle.std.proofs.lemmas.Bool.{ne_eqb, cases_eq}
use Rattle.apparmor_pieces.specs.Pieces.{Text, Piece, byte, use_of, written, used_name, escape, first_piece, pieces_behind, pieces}

-- bytes already listed are skipped
pub pieces_behind-drop : (n : ℕ) (text : Text) → pieces_behind n text ≡ pieces (drop n text)
unfolding pieces_behind
pieces_behind-drop zero text = refl
pieces_behind-drop (suc n) [] = refl
pieces_behind-drop (suc n) (b ∷ bytes) = pieces_behind-drop n bytes

-- what is left after the first byte, as the code has it
pub told : (n : ℕ) (text : Text) → pieces_behind n (drop 1 text) ≡ pieces_behind n (take (length text - 1) (drop 1 text))
told n text = ap (pieces_behind n) (sym (take_rest text 1))

-- a text that begins with this piece
pub begins_with : (text : Text) (b : ℕ) (p : Piece) → 1 ≤ length text → get_or text 0 0 ≡ b →
    first_piece b (take (length text - 1) (drop 1 text)) ≡ p
    → pieces text ≡ p ∷ pieces_behind (length (written p) - 1) (take (length text - 1) (drop 1 text))
unfolding pieces_behind
begins_with [] b p some at first = absurd (omega arith)
begins_with (a ∷ bytes) b p some at first =
    let rest = take_rest (a ∷ bytes) 1 in
    let same : first_piece a bytes ≡ p = ap (λ (x : ℕ). first_piece x bytes) at ∙ ap (first_piece b) (sym rest) ∙ first in
    ap (λ (q : Piece). q ∷ pieces_behind (length (written q) - 1) bytes) same
    ∙ ap (λ (t : Text). p ∷ pieces_behind (length (written p) - 1) t) (sym rest)

-- a byte that is neither \ nor @ stands for itself
pub plain_first : (b : ℕ) (bytes : Text) → b ≢ 92 → b ≢ 64 → first_piece b bytes ≡ byte b
plain_first b bytes h1 h2 =
    ap (λ t. cond t (escape bytes) (cond (eqb b 64) (elim (used_name bytes) [ None ↦ byte b | Some name ↦ use_of name ]) (byte b)))
    (ne_eqb b 92 h1)
    ∙ ap (λ t. cond t (elim (used_name bytes) [ None ↦ byte b | Some name ↦ use_of name ]) (byte b)) (ne_eqb b 64 h2)

-- an @ that begins no use stands for itself, and one that does forms a piece with its name
abbrev pub at_sign : Option Text → Piece
at_sign None = byte 64
at_sign (Some name) = use_of name

pub at_first : (bytes : Text) (o : Option Text) → used_name bytes ≡ o → first_piece 64 bytes ≡ at_sign o
at_first bytes o e = ap at_sign e

-- how many bytes a use has after its @
pub use_length : (name : Text) → length (written (use_of name)) - 1 ≡ length name + 2
use_length name = let h = length-append name (125 ∷ []) in omega (arith, h)

-- an empty text has no pieces
pub no_pieces : (text : Text) → text ≡ [] → pieces text ≡ []
unfolding pieces_behind
no_pieces text e = ap pieces e
