-- What is written below rules is read back: blanks, words and names.
use Rattle.std.proofs.Common.{◌≡◌, ℕ, zero, suc, ◌≤◌, ◌<◌, Bool, true, false, eqb, List, [], ◌∷◌, ◌++◌, length, take, drop, Option, Some}
use Rattle.std.proofs.Common.{None, Result, Ok, refl, sym, ap, subst, ◌∙◌, append_assoc, ◌==◌, arith}
use Rattle.std.specs.Prelude.{◌||◌, ◌&&◌, not, codes, nat_eq}
use Rattle.std.specs.Cmp.Lexicographic.{pointwise}
use Rattle.std.proofs.lemmas.Bool.{or_parts, and_parts, not-true, ne_eqb, eqb-true}
use Rattle.rule_reader.specs.declared.reader.name.NameByte.TheVariants.{OfName, Ends}
use Rattle.rule_reader.specs.declared.reader.local_fault.LocalFault.{LocalFault}
use Rattle.rule_reader.specs.ReadSteps.{◌>>=◌}
use Rattle.rule_reader.specs.ReadWords.{blank, blank_at, gap, word, after_word, name_byte, name_bytes, name_in, quoted_name}
use Rattle.rule_reader.specs.TextBytes.{begins, is_white, is_hash, opens_blank, is_include, is_include_mark, is_letter_byte, is_word_byte}
use Rattle.rule_reader.specs.TextBytes.{is_quote}
use Rattle.rule_reader.specs.GrammarWords.{Cell, plain, escaped, print_cells, may_stand, IsNameCell, Piece, white, comment, print_blank}
use Rattle.rule_reader.specs.GrammarWords.{IsCommentByte, IsBlank, IsGap, Stands, print_last, IsLast}
use Rattle.rule_globs.specs.Each.{Each}
use Rattle.rule_reader.specs.laws.ReadRuns.{Passes, leading_again, after_again, white_stops}

-- ---- comments

-- the word is here, with a byte after it that makes it an include
abbrev includes : List ℕ → List ℕ → Bool
includes w bytes = pointwise nat_eq w (take (length w) bytes) && begins is_include_mark (drop (length w) bytes)

-- whether a word without LF is here depends only on the bytes up to LF
includes_line : (w bytes rest : List ℕ) → Passes (λ x. not (x == 10)) w → includes w (bytes ++ 10 ∷ rest) ≡ includes w (bytes ++ 10 ∷ [])
includes_line [] [] rest h = refl
includes_line [] (b ∷ bytes) rest h = refl
includes_line (x ∷ w) [] rest h =
    let P : (t : Bool) → x == 10 ≡ t → not t ≡ true → includes (x ∷ w) (10 ∷ rest) ≡ includes (x ∷ w) (10 ∷ []) =
    λ t. elim t as (λ t. x == 10 ≡ t → not t ≡ true → includes (x ∷ w) (10 ∷ rest) ≡ includes (x ∷ w) (10 ∷ [])) [
      | true ↦ λ e n. absurd cc
      | false ↦ λ e n. rw e refl
    ] in
    P (x == 10) refl h.0
includes_line (x ∷ w) (b ∷ bytes) rest h =
    elim (x == b) as (λ t. (t && pointwise nat_eq w (take (length w) (bytes ++ 10 ∷ rest))) && begins is_include_mark
    (drop (length w) (bytes ++ 10 ∷ rest)) ≡ (t && pointwise nat_eq w (take (length w) (bytes ++ 10 ∷ []))) && begins is_include_mark
    (drop (length w) (bytes ++ 10 ∷ []))) [
      | true ↦ includes_line w bytes rest h.1
      | false ↦ refl
    ]

include_line : (bytes rest : List ℕ) → is_include (35 ∷ (bytes ++ 10 ∷ rest)) ≡ is_include (35 ∷ (bytes ++ 10 ∷ []))
include_line bytes rest = includes_line (codes "#include") (35 ∷ bytes) rest
    (refl, (refl, (refl, (refl, (refl, (refl, (refl, (refl, tt))))))))

comment_again : (bytes rest : List ℕ) → Each IsCommentByte bytes → blank_at true (bytes ++ 10 ∷ rest) ≡ blank rest
comment_again [] rest h = refl
comment_again (b ∷ bytes) rest h = let p = or_parts (b == 0) (b == 10) h.0 in rw (p.0, p.1) (comment_again bytes rest h.1)

last_again : (bytes : List ℕ) → Each IsCommentByte bytes → blank_at true bytes ≡ Ok []
last_again [] h = refl
last_again (b ∷ bytes) h = let p = or_parts (b == 0) (b == 10) h.0 in rw (p.0, p.1) (last_again bytes h.1)

-- ---- blanks

line_regrouped : (bytes pieces rest : List ℕ) → ((bytes ++ 10 ∷ []) ++ pieces) ++ rest ≡ bytes ++ 10 ∷ (pieces ++ rest)
line_regrouped bytes pieces rest = simp append_assoc

-- a blank is skipped
pub blank_past : (pieces : List Piece) (rest : List ℕ) → IsBlank pieces → blank (print_blank pieces ++ rest) ≡ blank rest
blank_past [] rest h = refl
blank_past (white b ∷ pieces) rest h = rw h.0 (blank_past pieces rest h.1)
blank_past (comment bytes ∷ pieces) rest h =
    let no_include = include_line bytes (print_blank pieces ++ rest) ∙ h.0.1 in
    ap (λ (x : List ℕ). blank (35 ∷ x)) (line_regrouped bytes (print_blank pieces) rest) ∙ rw no_include
    (comment_again bytes (print_blank pieces ++ rest) h.0.0 ∙ blank_past pieces rest h.1)

blank_ends : (rest : List ℕ) → begins opens_blank rest ≡ false → blank rest ≡ Ok rest
blank_ends [] s = refl
blank_ends (b ∷ rest) s = let p = or_parts (is_white b) (is_hash b) s in rw (p.0, p.1) refl

pub blank_again : (pieces : List Piece) (rest : List ℕ) → IsBlank pieces → begins opens_blank rest ≡ false →
    blank (print_blank pieces ++ rest) ≡ Ok rest
blank_again pieces rest h s = blank_past pieces rest h ∙ blank_ends rest s

-- the blank after the text
pub past_again : (pieces : List Piece) (last : Option (List ℕ)) → IsBlank pieces → IsLast last →
    blank (print_blank pieces ++ print_last last) ≡ Ok []
past_again pieces None h l = blank_past pieces [] h
past_again pieces (Some bytes) h l = blank_past pieces (35 ∷ bytes) h ∙ rw (l.1) (last_again bytes l.0)

-- ---- gaps

-- a gap's first byte opens a blank
pub gap_opens : (pieces : List Piece) (rest : List ℕ) → IsGap pieces → begins opens_blank (print_blank pieces ++ rest) ≡ true
gap_opens [] rest h = absurd h
gap_opens (white b ∷ pieces) rest h = rw (h.0) refl
gap_opens (comment bytes ∷ pieces) rest h = refl

pub gap_again : (pieces : List Piece) (rest : List ℕ) → IsGap pieces → begins opens_blank rest ≡ false →
    gap (print_blank pieces ++ rest) ≡ Ok rest
gap_again [] rest h s = absurd h
gap_again (p ∷ pieces) rest h s = rw (gap_opens (p ∷ pieces) rest h) (blank_again (p ∷ pieces) rest h s)

-- a gap fails a test that white and # fail
pub gap_stops : (test : ℕ → Bool) (pieces : List Piece) (rest : List ℕ) → test 32 ≡ false → test 9 ≡ false → test 10 ≡ false →
    test 13 ≡ false → test 35 ≡ false → IsGap pieces → begins test (print_blank pieces ++ rest) ≡ false
gap_stops test [] rest h1 h2 h3 h4 h5 h = absurd h
gap_stops test (white b ∷ pieces) rest h1 h2 h3 h4 h5 h = white_stops test b h1 h2 h3 h4 h.0
gap_stops test (comment bytes ∷ pieces) rest h1 h2 h3 h4 h5 h = h5

-- ---- words

-- a word of one letter and more, which ends here
pub word_again : (w rest : List ℕ) → Passes is_word_byte w → begins is_letter_byte w ≡ true → begins is_word_byte rest ≡ false →
    word (w ++ rest) ≡ w
word_again [] rest h l s = absurd cc
word_again (b ∷ w) rest h l s = rw l (leading_again is_word_byte (b ∷ w) rest h s)

pub after_word_again : (w rest : List ℕ) → Passes is_word_byte w → begins is_word_byte rest ≡ false → after_word (w ++ rest) ≡ rest
after_word_again w rest h s = after_again is_word_byte w rest h s

-- ---- names

-- what a byte that is allowed is not
pub may_parts : (quoted : Bool) (b : ℕ) → may_stand quoted b ≡ true → (eqb b 0 ≡ false) × (eqb b 10 ≡ false)
    × ((not quoted && is_white b) ≡ false)
may_parts quoted b h =
    let all = not-true _ h in
    let p = or_parts (b == 0 || b == 10) (not quoted && is_white b) all in
    let q = or_parts (b == 0) (b == 10) p.0 in
    (q.0, q.1, p.1)

plain_of_name : (quoted : Bool) (b : ℕ) → IsNameCell quoted (plain b) → name_byte quoted false b ≡ OfName
plain_of_name quoted b h =
    let p = and_parts (may_stand quoted b) (not (is_quote b || b == 92)) h in
    let q = or_parts (is_quote b) (b == 92) (not-true _ p.1) in
    let m = may_parts quoted b p.0 in
    rw (m.2, m.0, m.1, q.0) refl

no_backslash : (quoted : Bool) (b : ℕ) → IsNameCell quoted (plain b) → eqb b 92 ≡ false
no_backslash quoted b h =
    let p = and_parts (may_stand quoted b) (not (is_quote b || b == 92)) h in
    (or_parts (is_quote b) (b == 92) (not-true _ p.1)).1

backslash_of_name : (quoted : Bool) → name_byte quoted false 92 ≡ OfName
backslash_of_name true = refl
backslash_of_name false = refl

escaped_of_name : (quoted : Bool) (b : ℕ) → (b == 0 || b == 10) ≡ false → name_byte quoted true b ≡ OfName
escaped_of_name quoted b h = let q = or_parts (b == 0) (b == 10) h in rw (q.0, q.1) refl

pub quote_regrouped : (bytes rest : List ℕ) → (bytes ++ 34 ∷ []) ++ rest ≡ bytes ++ 34 ∷ rest
quote_regrouped bytes rest = simp append_assoc

-- a name ends here: before a quote, or before white
abbrev pub NameEnds : Bool → List ℕ → Type 0
NameEnds true rest = begins is_quote rest ≡ true
NameEnds false rest = begins is_white rest ≡ true

end_of_name : (quoted : Bool) (b : ℕ) (rest : List ℕ) → NameEnds quoted (b ∷ rest) → name_byte quoted false b ≡ Ends
end_of_name true b rest h = let same : b ≡ 34 = eqb-true b 34 h in subst (λ (x : ℕ). name_byte true false x ≡ Ends) (sym same) refl
end_of_name false b rest h =
    let quote : is_quote b ≡ false = white_stops is_quote b refl refl refl refl h in
    let none : eqb b 0 ≡ false = white_stops (λ x. x == 0) b refl refl refl refl h in
    let lf : (b == 10 && false) ≡ false = elim (b == 10) as (λ t. (t && false) ≡ false) [ true ↦ refl | false ↦ refl ] in
    rw (h, none, lf, quote) refl

name_bytes_end : (quoted : Bool) (first room : ℕ) (rest : List ℕ) → NameEnds quoted rest → name_bytes quoted first false room rest
    ≡ Ok ([], rest)
unfolding name_bytes
name_bytes_end true first room [] h = absurd cc
name_bytes_end false first room [] h = refl
name_bytes_end quoted first zero (b ∷ rest) h = rw (end_of_name quoted b rest h, name_bytes) refl
name_bytes_end quoted first (suc room) (b ∷ rest) h = rw (end_of_name quoted b rest h, name_bytes) refl

abbrev with_byte : ℕ → Result (List ℕ × List ℕ) LocalFault → Result (List ℕ × List ℕ) LocalFault
with_byte b read = read >>= λ x. Ok (b ∷ x.0, x.1)

name_bytes_again : (quoted : Bool) (first room : ℕ) (cells : List Cell) (rest : List ℕ) → Each (IsNameCell quoted) cells →
    length (print_cells cells) ≤ room → NameEnds quoted rest
    → name_bytes quoted first false room (print_cells cells ++ rest) ≡ Ok (print_cells cells, rest)
unfolding name_bytes
name_bytes_again quoted first room [] rest h few end = name_bytes_end quoted first room rest end
name_bytes_again quoted first zero (plain b ∷ cells) rest h few end = absurd (omega arith)
name_bytes_again quoted first (suc room) (plain b ∷ cells) rest h few end =
    let more = name_bytes_again quoted first room cells rest h.1 (omega arith) end in
    rw (plain_of_name quoted b h.0, name_bytes, no_backslash quoted b h.0) (ap (with_byte b) more)
name_bytes_again quoted first zero (escaped b ∷ cells) rest h few end = absurd (omega arith)
name_bytes_again quoted first (suc zero) (escaped b ∷ cells) rest h few end = absurd (omega arith)
name_bytes_again quoted first (suc (suc room)) (escaped b ∷ cells) rest h few end =
    let more = name_bytes_again quoted first room cells rest h.1 (omega arith) end in
    rw (backslash_of_name quoted, name_bytes, escaped_of_name quoted b h.0, name_bytes)
    (ap (λ (x : Result (List ℕ × List ℕ) LocalFault). with_byte 92 (with_byte b x)) more)

some_bytes : (cells : List Cell) → 0 < length cells → eqb (length (print_cells cells)) 0 ≡ false
some_bytes [] h = absurd (omega arith)
some_bytes (plain b ∷ cells) h = ne_eqb _ 0 (λ e. omega arith)
some_bytes (escaped b ∷ cells) h = ne_eqb _ 0 (λ e. omega arith)

pub name_in_again : (quoted : Bool) (room : ℕ) (cells : List Cell) (rest : List ℕ) → Each (IsNameCell quoted) cells → 0 < length cells →
    length (print_cells cells) ≤ room → NameEnds quoted rest
    → name_in quoted room (print_cells cells ++ rest) ≡ Ok (print_cells cells, rest)
unfolding name_in
name_in_again quoted room cells rest h some few end =
    rw (name_bytes_again quoted (length (print_cells cells ++ rest)) room cells rest h few end, some_bytes cells some) refl

pub quoted_name_again : (room : ℕ) (cells : List Cell) (rest : List ℕ) → Each (IsNameCell true) cells → 0 < length cells →
    length (print_cells cells) ≤ room
    → quoted_name room (print_cells cells ++ 34 ∷ rest) ≡ Ok (print_cells cells, rest)
unfolding quoted_name
quoted_name_again room cells rest h some few = rw (name_in_again true room cells (34 ∷ rest) h some few refl) refl

-- directly after a bare name or path there is white
pub gap_ends : (pieces : List Piece) (rest : List ℕ) → IsGap pieces → Stands false pieces →
    begins is_white (print_blank pieces ++ rest) ≡ true
gap_ends [] rest h s = absurd h
gap_ends (white b ∷ pieces) rest h s = h.0
gap_ends (comment bytes ∷ pieces) rest h s = absurd cc
