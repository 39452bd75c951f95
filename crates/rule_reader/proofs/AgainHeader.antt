-- A header that is written is read back.
use Rattle.std.proofs.Common.{◌≡◌, ℕ, ◌≤◌, ◌<◌, Bool, true, false, List, [], ◌∷◌, ◌++◌, length, length-append, Option, Some, None, Ok}
use Rattle.std.proofs.Common.{refl, sym, ap, subst, ◌∙◌, append_assoc, ◌==◌, arith}
use Rattle.std.specs.Prelude.{◌||◌, ◌&&◌, not, codes}
use Rattle.std.specs.Str.{bytes_eq}
use Rattle.std.proofs.lemmas.Bool.{or_parts, and_parts, not-true, eqb-true}
use Rattle.rule_globs.specs.Glob.{is_slash}
use Rattle.rule_reader.specs.ReadWords.{gap, word, after_word, is_word}
use Rattle.rule_reader.specs.ReadHeader.{slash_name_at, is_colon, begins_no_name, name_at, attachment_at, brace_at, named_header_at}
use Rattle.rule_reader.specs.ReadHeader.{slash_header_at, header_at}
use Rattle.rule_reader.specs.TextBytes.{begins, is_white, opens_blank, is_letter_byte, is_word_byte, is_quote}
use Rattle.rule_reader.specs.GrammarWords.{Cell, plain, escaped, print_cells, may_stand, IsNameCell, IsFirst, BeginsWithSlash, print_name}
use Rattle.rule_reader.specs.GrammarWords.{name_means, in_quotes, Piece, print_blank, IsGap, Stands}
use Rattle.rule_globs.specs.Each.{Each}
use Rattle.rule_reader.specs.Grammar.{Attachment, print_attachment, IsAttachment, WrittenHeader, named, by_path, print_header, IsHeader}
use Rattle.rule_reader.specs.Grammar.{header_means}
use Rattle.rule_reader.proofs.AgainWords.{quote_regrouped, gap_again, gap_stops, gap_ends, name_in_again, quoted_name_again, word_again}
use Rattle.rule_reader.proofs.AgainWords.{after_word_again, may_parts}

-- ---- names

-- what a name ends before: anything after its quote, or white
abbrev pub BareEnds : Bool → List ℕ → Type 0
BareEnds true rest = Unit {0}
BareEnds false rest = begins is_white rest ≡ true

some_slash : (cells : List Cell) → BeginsWithSlash cells → 0 < length cells
some_slash [] h = absurd h
some_slash (c ∷ cells) h = omega arith

-- the first byte of a name that begins with a slash
slash_first : (cells : List Cell) (rest : List ℕ) (test : ℕ → Bool) → BeginsWithSlash cells →
    begins test (print_cells cells ++ rest) ≡ test 47
slash_first [] rest test h = absurd h
slash_first (plain b ∷ cells) rest test h = ap test (eqb-true b 47 h)
slash_first (escaped b ∷ cells) rest test h = absurd cc

pub slash_name_again : (quoted : Bool) (room : ℕ) (cells : List Cell) (rest : List ℕ) → Each (IsNameCell quoted) cells →
    BeginsWithSlash cells → length (print_cells cells) ≤ room → BareEnds quoted rest
    → slash_name_at room (in_quotes quoted (print_cells cells) ++ rest) ≡ Ok (print_cells cells, rest)
unfolding slash_name_at
slash_name_again true room cells rest h s few end =
    ap (λ (x : List ℕ). slash_name_at room (34 ∷ x)) (quote_regrouped (print_cells cells) rest)
    ∙ rw (slash_first cells (34 ∷ rest) is_slash s) (quoted_name_again room cells rest h (some_slash cells s) few)
slash_name_again false room cells rest h s few end =
    rw (slash_first cells rest is_slash s) (name_in_again false room cells rest h (some_slash cells s) few end)

-- the first byte of a name after the word profile
some_first : (quoted : Bool) (cells : List Cell) → IsFirst quoted cells → 0 < length cells
some_first quoted [] h = absurd h
some_first quoted (c ∷ cells) h = omega arith

no_colon : (quoted : Bool) (cells : List Cell) (rest : List ℕ) → IsFirst quoted cells → begins is_colon (print_cells cells ++ rest) ≡ false
no_colon quoted [] rest h = absurd h
no_colon quoted (plain b ∷ cells) rest h =
    (or_parts (b == 58) (not quoted && (b == 123 || b == 125 || b == 44 || b == 35)) (not-true _ h)).0
no_colon quoted (escaped b ∷ cells) rest h = refl

begins_so : (cells : List Cell) (rest : List ℕ) → IsFirst false cells → begins begins_no_name (print_cells cells ++ rest) ≡ false
begins_so [] rest h = absurd h
begins_so (plain b ∷ cells) rest h = (or_parts (b == 58) (b == 123 || b == 125 || b == 44 || b == 35) (not-true _ h)).1
begins_so (escaped b ∷ cells) rest h = refl

no_quote : (cells : List Cell) (rest : List ℕ) → Each (IsNameCell false) cells → IsFirst false cells →
    begins is_quote (print_cells cells ++ rest) ≡ false
no_quote [] rest h f = absurd f
no_quote (plain b ∷ cells) rest h f =
    let p = and_parts (may_stand false b) (not (is_quote b || b == 92)) h.0 in
    (or_parts (is_quote b) (b == 92) (not-true _ p.1)).0
no_quote (escaped b ∷ cells) rest h f = refl

no_blank : (cells : List Cell) (rest : List ℕ) → Each (IsNameCell false) cells → IsFirst false cells →
    begins opens_blank (print_cells cells ++ rest) ≡ false
no_blank [] rest h f = absurd f
no_blank (plain b ∷ cells) rest h f =
    let p = and_parts (may_stand false b) (not (is_quote b || b == 92)) h.0 in
    let m = may_parts false b p.0 in
    let q = or_parts (b == 58) (b == 123 || b == 125 || b == 44 || b == 35) (not-true _ f) in
    let hash = (or_parts (b == 123 || b == 125 || b == 44) (b == 35) q.1).1 in
    rw (m.2, hash) refl
no_blank (escaped b ∷ cells) rest h f = refl

-- no blank begins where a name does
name_no_blank : (quoted : Bool) (cells : List Cell) (rest : List ℕ) → Each (IsNameCell quoted) cells → IsFirst quoted cells →
    begins opens_blank (in_quotes quoted (print_cells cells) ++ rest) ≡ false
name_no_blank true cells rest h f = refl
name_no_blank false cells rest h f = no_blank cells rest h f

slash_no_blank : (quoted : Bool) (cells : List Cell) (rest : List ℕ) → BeginsWithSlash cells →
    begins opens_blank (in_quotes quoted (print_cells cells) ++ rest) ≡ false
slash_no_blank true cells rest s = refl
slash_no_blank false cells rest s = slash_first cells rest opens_blank s

slash_or_quote : (quoted : Bool) (cells : List Cell) (rest : List ℕ) → BeginsWithSlash cells →
    (begins is_slash (in_quotes quoted (print_cells cells) ++ rest) || begins is_quote (in_quotes quoted (print_cells cells) ++ rest))
    ≡ true
slash_or_quote true cells rest s = refl
slash_or_quote false cells rest s = rw (slash_first cells rest is_slash s) refl

name_again : (quoted : Bool) (cells : List Cell) (rest : List ℕ) → Each (IsNameCell quoted) cells → IsFirst quoted cells →
    length (print_cells cells) ≤ 255 → BareEnds quoted rest
    → name_at (in_quotes quoted (print_cells cells) ++ rest) ≡ Ok (print_cells cells, rest)
unfolding name_at
name_again true cells rest h f few end =
    ap (λ (x : List ℕ). name_at (34 ∷ x)) (quote_regrouped (print_cells cells) rest)
    ∙ rw (no_colon true cells (34 ∷ rest) f) (quoted_name_again 255 cells rest h (some_first true cells f) few)
name_again false cells rest h f few end =
    rw (no_quote cells rest h f, no_colon false cells rest f, begins_so cells rest f)
    (name_in_again false 255 cells rest h (some_first false cells f) few end)

-- ---- what follows a name

gap_ends_bare : (quoted : Bool) (pieces : List Piece) (rest : List ℕ) → IsGap pieces → Stands quoted pieces →
    BareEnds quoted (print_blank pieces ++ rest)
gap_ends_bare true pieces rest h s = tt
gap_ends_bare false pieces rest h s = gap_ends pieces rest h s

-- a name is no longer than the bytes from its start on
fits_itself : (quoted : Bool) (cells rest : List ℕ) → length cells ≤ length (in_quotes quoted cells ++ rest)
fits_itself true cells rest = omega (arith, length-append (cells ++ 34 ∷ []) rest, length-append cells (34 ∷ []))
fits_itself false cells rest = omega (arith, length-append cells rest)

attachment_again : (a : Option Attachment) (rest : List ℕ) → IsAttachment a → attachment_at (print_attachment a ++ 123 ∷ rest)
    ≡ Ok (123 ∷ rest)
unfolding attachment_at
attachment_again None rest h = refl
attachment_again (Some a) rest h =
    let all : List ℕ = in_quotes a.name.quoted (print_cells a.name.cells) ++ (print_blank a.gap ++ 123 ∷ rest) in
    let first : slash_name_at (length all) all ≡ Ok (print_cells a.name.cells, print_blank a.gap ++ 123 ∷ rest) =
    slash_name_again a.name.quoted (length all) a.name.cells (print_blank a.gap ++ 123 ∷ rest) h.0 h.1
    (fits_itself a.name.quoted (print_cells a.name.cells) (print_blank a.gap ++ 123 ∷ rest))
    (gap_ends_bare a.name.quoted a.gap (123 ∷ rest) h.2.0 h.2.1) in
    ap attachment_at (append_assoc (in_quotes a.name.quoted (print_cells a.name.cells)) (print_blank a.gap) (123 ∷ rest))
    ∙ rw (slash_or_quote a.name.quoted a.name.cells (print_blank a.gap ++ 123 ∷ rest) h.1, first) (gap_again a.gap (123 ∷ rest) h.2.0 refl)

attachment_no_blank : (a : Option Attachment) (rest : List ℕ) → IsAttachment a → begins opens_blank (print_attachment a ++ 123 ∷ rest)
    ≡ false
attachment_no_blank None rest h = refl
attachment_no_blank (Some a) rest h =
    subst (λ (x : List ℕ). begins opens_blank x ≡ false)
    (sym (append_assoc (in_quotes a.name.quoted (print_cells a.name.cells)) (print_blank a.gap) (123 ∷ rest)))
    (slash_no_blank a.name.quoted a.name.cells (print_blank a.gap ++ 123 ∷ rest) h.1)

brace_again : (rest : List ℕ) → brace_at (123 ∷ rest) ≡ Ok rest
unfolding brace_at
brace_again rest = refl

-- ---- headers

is_profile_word : (rest : List ℕ) → begins is_word_byte rest ≡ false → word (codes "profile" ++ rest) ≡ codes "profile"
is_profile_word rest s = word_again (codes "profile") rest (refl, (refl, (refl, (refl, (refl, (refl, (refl, tt))))))) refl s

past_profile_word : (rest : List ℕ) → begins is_word_byte rest ≡ false → after_word (codes "profile" ++ rest) ≡ rest
past_profile_word rest s = after_word_again (codes "profile") rest (refl, (refl, (refl, (refl, (refl, (refl, (refl, tt))))))) s

named_regrouped : (gap name behind attachment rest : List ℕ) → (gap ++ (name ++ (behind ++ attachment))) ++ rest ≡ gap
    ++ (name ++ (behind ++ (attachment ++ rest)))
named_regrouped gap name behind attachment rest = simp append_assoc

-- a word is none of a slash or a quote
no_word : (quoted : Bool) (cells : List Cell) (rest : List ℕ) → BeginsWithSlash cells →
    word (in_quotes quoted (print_cells cells) ++ rest) ≡ []
no_word true cells rest s = refl
no_word false cells rest s = rw (slash_first cells rest is_letter_byte s) refl

-- the word profile, and what follows it step by step
named_steps : (bytes from name t2 t3 t4 rest : List ℕ) → is_word (codes "profile") bytes ≡ true → gap (after_word bytes) ≡ Ok from →
    name_at from ≡ Ok (name, t2) → gap t2 ≡ Ok t3 → attachment_at t3 ≡ Ok t4 → brace_at t4 ≡ Ok rest
    → header_at bytes ≡ Ok (name, rest)
unfolding header_at named_header_at
named_steps bytes from name t2 t3 t4 rest w e1 e2 e3 e4 e5 = rw (w, e1, e2, e3, e4, e5) refl

pub header_again : (h : WrittenHeader) (rest : List ℕ) → IsHeader h → header_at (print_header h ++ 123 ∷ rest) ≡ Ok (header_means h, rest)
unfolding header_at slash_header_at
header_again (named between name behind attachment) rest h =
    let t4 : List ℕ = 123 ∷ rest in
    let t3 : List ℕ = print_attachment attachment ++ t4 in
    let t2 : List ℕ = print_blank behind ++ t3 in
    let t1 : List ℕ = print_name name ++ t2 in
    let t0 : List ℕ = print_blank between ++ t1 in
    let s : begins is_word_byte t0 ≡ false = gap_stops is_word_byte between t1 refl refl refl refl refl h.0 in
    let e1 : gap t0 ≡ Ok t1 = gap_again between t1 h.0 (name_no_blank name.quoted name.cells t2 h.1.cells h.2) in
    let e2 : name_at t1 ≡ Ok (name_means name, t2) = name_again name.quoted name.cells t2 h.1.cells h.2 h.1.fits
    (gap_ends_bare name.quoted behind t3 h.3.0 h.3.1) in
    let e3 : gap t2 ≡ Ok t3 = gap_again behind t3 h.3.0 (attachment_no_blank attachment rest h.4) in
    let e4 : attachment_at t3 ≡ Ok t4 = attachment_again attachment rest h.4 in
    ap (λ (x : List ℕ). header_at (codes "profile" ++ x)) (named_regrouped (print_blank between) (print_name name) (print_blank behind)
    (print_attachment attachment) t4)
    ∙ named_steps (codes "profile" ++ t0) t1 (name_means name) t2 t3 t4 rest (ap (λ (x : List ℕ). bytes_eq x (codes "profile"))
    (is_profile_word t0 s)) (ap gap (past_profile_word t0 s) ∙ e1) e2 e3 e4 (brace_again rest)
header_again (by_path name behind) rest h =
    let t2 : List ℕ = 123 ∷ rest in
    let t1 : List ℕ = print_blank behind ++ t2 in
    let t0 : List ℕ = print_name name ++ t1 in
    let e1 : slash_name_at 255 t0 ≡ Ok (name_means name, t1) = slash_name_again name.quoted 255 name.cells t1 h.0.cells h.1 h.0.fits
    (gap_ends_bare name.quoted behind t2 h.2.0 h.2.1) in
    let e2 : gap t1 ≡ Ok t2 = gap_again behind t2 h.2.0 refl in
    ap header_at (append_assoc (print_name name) (print_blank behind) t2)
    ∙ rw (no_word name.quoted name.cells t1 h.1, slash_or_quote name.quoted name.cells t1 h.1, e1, e2, brace_again rest) refl

-- no blank begins where a header does
pub header_no_blank : (h : WrittenHeader) (rest : List ℕ) → IsHeader h → begins opens_blank (print_header h ++ rest) ≡ false
header_no_blank (named between name behind attachment) rest h = refl
header_no_blank (by_path name behind) rest h =
    ap (begins opens_blank) (append_assoc (print_name name) (print_blank behind) rest) ∙ slash_no_blank name.quoted name.cells
    (print_blank behind ++ rest) h.1
