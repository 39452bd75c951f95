-- Parts that are read at a known front: what is taken, and what is left.
use Rattle.std.proofs.Common.{◌≡◌, ℕ, ◌-◌, true, false, List, [], ◌∷◌, ◌++◌, length, drop, Ok, refl, sym, ap, ◌∙◌, append_assoc, ◌==◌}
use Rattle.std.proofs.Common.{arith}
use Rattle.std.specs.List.{list_all}
use Rattle.std.proofs.lemmas.Bool.{and_parts, ne_eqb, or_parts}
use Rattle.std.proofs.lemmas.List.{length-append}
use Rattle.std.proofs.Math.Seq.{take-append_seam, drop-append_seam}
use Rattle.rule_reader.specs.TextBytes.{begins, is_white, is_hash, opens_blank}
use Rattle.apparmor_words.specs.Words.{blank_at}
use Rattle.apparmor_text.specs.declared.part.PartKind.{PartKind}
use Rattle.apparmor_text.specs.declared.part.PartKind.TheVariants as parts
use Rattle.apparmor_text.specs.Parts.{PartValue}
use Rattle.apparmor_text.specs.Readings.{Reading, taken, taken_to}
use Rattle.apparmor_text.specs.WordParts.{blank_part, word_part}
use Rattle.apparmor_text.specs.laws.GoingWords.{front_taken}
use Rattle.rule_profile.specs.Readable.{are_name_bytes}
use Rattle.import_laws.specs.CanonicalItems.{part_of, in_quotes, ends_plainly}
use Rattle.import_laws.proofs.QuotedWords.{word_ends}

abbrev pub reading : List PartValue → List ℕ → Reading
reading read rest = record { parts = read; rest = rest }

-- ---- what is taken

front_left : (front rest : List ℕ) → drop (length (front ++ rest) - length rest) (front ++ rest) ≡ rest
front_left front rest =
    let n : length (front ++ rest) - length rest ≡ length front = (let a = length-append front rest in omega (arith, a)) in
    ap (λ k. drop k (front ++ rest)) n ∙ drop-append_seam front rest

pub takes_to : (kind : PartKind) (read : List PartValue) (b : ℕ) (front rest : List ℕ)
    → taken_to kind rest (reading read (b ∷ (front ++ rest))) ≡ reading (read ++ (part_of kind (b ∷ front) ∷ [])) rest
takes_to kind read b front rest =
    let some : (length (b ∷ front) == 0) ≡ false = ne_eqb (length (b ∷ front)) 0 (λ e. absurd (omega (arith, e))) in
    rw (front_taken (b ∷ front) rest, front_left (b ∷ front) rest, some) refl

-- some bytes that come before others
pub takes_front : (kind : PartKind) (read : List PartValue) (front rest : List ℕ) → (length front == 0) ≡ false
    → taken kind (length front) (reading read (front ++ rest)) ≡ reading (read ++ (part_of kind front ∷ [])) rest
takes_front kind read front rest some = rw (take-append_seam front rest, drop-append_seam front rest, some) refl

-- no bytes
pub takes_none : (kind : PartKind) (read : List PartValue) (rest : List ℕ) → taken_to kind rest (reading read rest) ≡ reading read rest
takes_none kind read rest =
    let n : length rest - length rest ≡ 0 = omega arith in
    rw n refl

-- ---- blanks

white_ends : (white rest : List ℕ) → list_all is_white white ≡ true → begins opens_blank rest ≡ false →
    blank_at false (white ++ rest) ≡ Ok rest
white_ends [] [] h e = refl
white_ends [] (b ∷ rest) h e = let p = or_parts (is_white b) (is_hash b) e in rw (p.0, p.1) refl
white_ends (w ∷ white) rest h e =
    let p = and_parts (is_white w) (list_all is_white white) h in
    rw (p.0) (white_ends white rest p.1 e)

pub reads_blank : (read : List PartValue) (w : ℕ) (white rest : List ℕ) → list_all is_white (w ∷ white) ≡ true →
    begins opens_blank rest ≡ false
    → blank_part (reading read (w ∷ (white ++ rest))) ≡ Ok (reading (read ++ (part_of parts.Blank (w ∷ white) ∷ [])) rest)
reads_blank read w white rest h e = rw (white_ends (w ∷ white) rest h e, takes_to parts.Blank read w white rest) refl

-- ---- words in quotes

pub reads_quoted : (kind : PartKind) (read : List PartValue) (bytes rest : List ℕ) → are_name_bytes false bytes ≡ true
    → ends_plainly bytes ≡ true
    → word_part kind (reading read (34 ∷ (bytes ++ 34 ∷ rest))) ≡ Ok (reading (read ++ (part_of kind (in_quotes bytes) ∷ [])) rest)
reads_quoted kind read bytes rest h plain = rw (
  word_ends bytes rest h plain,
  sym (append_assoc bytes (34 ∷ []) rest),
  takes_to kind read 34
      (bytes ++ 34 ∷ []) rest,
) refl
