-- Blanks, words and names with more bytes after them.
use Rattle.std.proofs.Common.{◌≡◌, ℕ, zero, suc, ◌≤◌, Bool, true, false, cond, List, [], ◌∷◌, ◌++◌, length, drop, Result, Ok, refl, sym}
use Rattle.std.proofs.Common.{ap, subst, ◌⊎◌, inl, inr, ◌==◌, arith}
use Rattle.std.specs.Prelude.{◌&&◌, ◌||◌, not, codes, nat_eq}
use Rattle.std.specs.List.{starts_with}
use Rattle.std.proofs.lemmas.Bool.{eqb-true, ne_eqb}
use Rattle.rule_reader.specs.declared.reader.name.NameByte.{NameByte}
use Rattle.rule_reader.specs.declared.reader.name.NameByte.TheVariants.{OfName, Ends, Wrong}
use Rattle.rule_reader.specs.declared.reader.local_fault.LocalFault.{LocalFault}
use Rattle.rule_reader.specs.ReadSteps.{◌>>=◌, goes_on, syntax}
use Rattle.rule_reader.specs.ReadWords.{leading, after, blank_at, gap, literal, word, after_word, name_byte, name_bytes, name_in}
use Rattle.rule_reader.specs.ReadWords.{quoted_name}
use Rattle.rule_reader.specs.TextBytes.{begins, is_white, is_hash, opens_blank, is_include, is_include_mark, is_word_byte, is_letter_byte}
use Rattle.rule_reader.proofs.Kept.{claims, Kept, KeptBytes, KeptPair, by_test, both, ends_here, nothing, known, stays, kept_if, kept_when}
use Rattle.rule_reader.proofs.Kept.{after_bytes, after_pair}

-- ---- runs of bytes

pub after_more : (test : ℕ → Bool) (bytes more : List ℕ) → goes_on (after test bytes) ≡ true → after test (bytes ++ more)
    ≡ after test bytes ++ more
after_more test [] more some = both (sym some)
after_more test (b ∷ bytes) more some =
    let P : (t : Bool) → goes_on (cond t (after test bytes) (b ∷ bytes)) ≡ true → cond t (after test (bytes ++ more)) (b ∷ bytes ++ more)
    ≡ cond t (after test bytes) (b ∷ bytes) ++ more =
    λ t. elim t as (λ t. goes_on (cond t (after test bytes) (b ∷ bytes)) ≡ true → cond t (after test (bytes ++ more)) (b ∷ bytes ++ more)
    ≡ cond t (after test bytes) (b ∷ bytes) ++ more) [
      | true ↦ λ s. after_more test bytes more s
      | false ↦ λ s. refl
    ] in
    P (test b) some

pub leading_more : (test : ℕ → Bool) (bytes more : List ℕ) → goes_on (after test bytes) ≡ true → leading test (bytes ++ more)
    ≡ leading test bytes
leading_more test [] more some = both (sym some)
leading_more test (b ∷ bytes) more some =
    let P : (t : Bool) → goes_on (cond t (after test bytes) (b ∷ bytes)) ≡ true → cond t (b ∷ leading test (bytes ++ more)) []
    ≡ cond t (b ∷ leading test bytes) [] =
    λ t. elim t as (λ t. goes_on (cond t (after test bytes) (b ∷ bytes)) ≡ true → cond t (b ∷ leading test (bytes ++ more)) []
    ≡ cond t (b ∷ leading test bytes) []) [
      | true ↦ λ s. ap (λ (x : List ℕ). b ∷ x) (leading_more test bytes more s)
      | false ↦ λ s. refl
    ] in
    P (test b) some

-- bytes with none left after a run are a run
some_word : (b : ℕ) (bytes : List ℕ) → goes_on (after_word (b ∷ bytes)) ≡ false → length (leading is_word_byte (b ∷ bytes)) == 0 ≡ false
some_word b bytes end =
    by_test (is_word_byte b)
    (λ e. rw e (ne_eqb _ 0 (λ h. absurd (omega arith))))
    (λ e. let left = rw e at end in both left)

-- a word that ends at the text's end
pub ended_word : (b : ℕ) (bytes : List ℕ) → is_letter_byte b ≡ true → goes_on (after_word (b ∷ bytes)) ≡ false →
    (after_word (b ∷ bytes) ≡ []) × (length (word (b ∷ bytes)) == 0 ≡ false)
ended_word b bytes letter end = (ends_here (λ x. x ≡ []) (after_word (b ∷ bytes)) end refl, rw letter (some_word b bytes end))

-- The word here: none; one with something after it, which is the same whatever follows; or one that ends at the text's end.
pub word_cases : {P : Type 0} (b : ℕ) (bytes more : List ℕ) → (is_letter_byte b ≡ false → P)
    → (is_letter_byte b ≡ true → word (b ∷ bytes ++ more) ≡ word (b ∷ bytes) → after_word (b ∷ bytes ++ more)
    ≡ after_word (b ∷ bytes) ++ more → P)
    → (is_letter_byte b ≡ true → after_word (b ∷ bytes) ≡ [] → length (word (b ∷ bytes)) == 0 ≡ false → P) → P
word_cases b bytes more none whole open_word =
    let here : List ℕ = b ∷ bytes in
    by_test (is_letter_byte b) (λ letter.
    by_test (goes_on (after_word here))
    (λ some. whole letter (ap (λ (x : List ℕ). cond (is_letter_byte b) x []) (leading_more is_word_byte here more some))
    (after_more is_word_byte here more some))
    (λ end. let ended = ended_word b bytes letter end in open_word letter ended.0 ended.1))
    none

-- ---- blanks

-- the bytes after the # of a comment are this word and a mark after it
abbrev marked : List ℕ → List ℕ → Bool
marked word bytes = starts_with nat_eq bytes word && begins is_include_mark (drop (length word) bytes)

abbrev in_line : List ℕ → Type 0
in_line [] = Unit {0}
in_line (c ∷ word) = ((c == 0 ≡ false) × (c == 10 ≡ false)) × in_line word

-- a comment continues after any byte but LF and 0
in_comment : (b : ℕ) (bytes : List ℕ) → (b == 0 ≡ false) × (b == 10 ≡ false) → claims goes_on (blank_at true (b ∷ bytes)) ≡ true →
    claims goes_on (blank_at true bytes) ≡ true
in_comment b bytes h seen = let zero_not = h.0 in let line_not = h.1 in rw (zero_not, line_not) at seen

-- where a comment was read past its end, or the word and its mark were seen, more bytes don't change that
marked_more : (word bytes more : List ℕ) → in_line word → (claims goes_on (blank_at true bytes) ≡ true) ⊎ (marked word bytes ≡ true) →
    marked word (bytes ++ more) ≡ marked word bytes
marked_more [] [] more line (inl h) = both (sym h)
marked_more [] [] more line (inr h) = both (sym h)
marked_more (c ∷ word) [] more line (inl h) = both (sym h)
marked_more (c ∷ word) [] more line (inr h) = both (sym h)
marked_more [] (b ∷ bytes) more line h = refl
marked_more (c ∷ word) (b ∷ bytes) more line h =
    by_test (nat_eq c b)
    (λ same. rw same (marked_more word bytes more line.1 (elim h [
      | inl seen ↦ let byte : c ≡ b = eqb-true c b same in
          inl (in_comment b bytes (subst (λ (x : ℕ). (x == 0 ≡ false) × (x == 10 ≡ false)) byte line.0) seen)
      | inr seen ↦ inr (rw same at seen)
    ])))
    (λ other. rw other refl)

include_more : (b : ℕ) (bytes more : List ℕ) → (claims goes_on (blank_at true bytes) ≡ true) ⊎ (is_include (b ∷ bytes) ≡ true) →
    is_include (b ∷ bytes ++ more) ≡ is_include (b ∷ bytes)
include_more b bytes more h =
    by_test (nat_eq 35 b)
    (λ same. rw same (marked_more (codes "include") bytes more
    ((refl, refl), ((refl, refl), ((refl, refl), ((refl, refl), ((refl, refl), ((refl, refl), ((refl, refl), tt))))))) (elim h [
      | inl seen ↦ inl seen
      | inr seen ↦ inr (rw same at seen)
    ])))
    (λ other. rw other refl)

pub blank_kept : (comment : Bool) (bytes more : List ℕ) → KeptBytes more (blank_at comment bytes) (blank_at comment (bytes ++ more))
blank_kept comment [] more = nothing refl
blank_kept true (b ∷ bytes) more = kept_if (b == 0) (λ _. stays) (λ _. blank_kept (not (b == 10)) bytes more)
blank_kept false (b ∷ bytes) more =
    kept_if (is_white b) (λ _. blank_kept false bytes more) (λ _.
    kept_if (is_hash b)
    (λ _. by_test (is_include (b ∷ bytes))
    (λ told. let same = include_more b bytes more (inr told) in rw (same, told) stays)
    (λ other. rw other (kept_when (λ some. let same = include_more b bytes more (inl some) in
    rw (same, other) (blank_kept true bytes more)))))
    (λ _. known (λ _. refl)))

pub gap_kept : (bytes more : List ℕ) → KeptBytes more (gap bytes) (gap (bytes ++ more))
gap_kept [] more = nothing refl
gap_kept (b ∷ bytes) more = kept_if (opens_blank b) (λ _. blank_kept false (b ∷ bytes) more) (λ _. stays)

pub literal_kept : (wanted bytes more : List ℕ) → KeptBytes more (literal wanted bytes) (literal wanted (bytes ++ more))
literal_kept [] bytes more = known (λ _. refl)
literal_kept (w ∷ wanted) [] more = nothing refl
literal_kept (w ∷ wanted) (b ∷ bytes) more = kept_if (b == w) (λ _. literal_kept wanted bytes more) (λ _. stays)

-- ---- names

abbrev by_name_byte : {A : Type 0} → NameByte → Result A LocalFault → Result A LocalFault → Result A LocalFault → Result A LocalFault
by_name_byte kind x1 x2 x3 = elim kind [ OfName ↦ x1 | Ends ↦ x2 | Wrong ↦ x3 ]

kept_name_byte : {A : Type 0} {put : A → A} {enough : A → Bool} {x1 x2 x3 y1 y2 y3 : Result A LocalFault} (kind : NameByte)
    → Kept put enough x1 y1 → Kept put enough x2 y2 → Kept put enough x3 y3
    → Kept put enough (by_name_byte kind x1 x2 x3) (by_name_byte kind y1 y2 y3)
kept_name_byte OfName h1 h2 h3 = h1
kept_name_byte Ends h1 h2 h3 = h2
kept_name_byte Wrong h1 h2 h3 = h3

no_name_here : (t : Bool) → claims (λ (x : List ℕ × List ℕ). goes_on x.1) (cond t (syntax []) (Ok ([], []))) ≡ false
no_name_here true = refl
no_name_here false = refl

-- the two may be counted from different ends
name_bytes_kept : (quoted : Bool) (here there : ℕ) (escaped : Bool) (room : ℕ) (bytes more : List ℕ)
    → KeptPair more (name_bytes quoted here escaped room bytes) (name_bytes quoted there escaped room (bytes ++ more))
unfolding name_bytes
name_bytes_kept quoted here there escaped zero [] more = nothing (no_name_here (quoted || escaped))
name_bytes_kept quoted here there escaped (suc room) [] more = nothing (no_name_here (quoted || escaped))
name_bytes_kept quoted here there escaped zero (b ∷ bytes) more = kept_name_byte (name_byte quoted escaped b) stays
    (known (λ _. refl)) stays
name_bytes_kept quoted here there escaped (suc room) (b ∷ bytes) more =
    kept_name_byte (name_byte quoted escaped b)
    (after_pair _ _ (name_bytes_kept quoted here there (not escaped && b == 92) room bytes more) (λ name rest. known (λ _. refl))
    (λ name. refl))
    (known (λ _. refl)) stays

pub name_in_kept : (quoted : Bool) (room : ℕ) (bytes more : List ℕ) → KeptPair more (name_in quoted room bytes)
    (name_in quoted room (bytes ++ more))
unfolding name_in
name_in_kept quoted room bytes more =
    after_pair _ _ (name_bytes_kept quoted (length bytes) (length (bytes ++ more)) false room bytes more)
    (λ name rest. kept_if (length name == 0) (λ _. stays) (λ _. known (λ _. refl)))
    (λ name. by_test (length name == 0) (λ e. rw e refl) (λ e. rw e refl))

pub quoted_name_kept : (room : ℕ) (bytes more : List ℕ) → KeptPair more (quoted_name room bytes) (quoted_name room (bytes ++ more))
unfolding quoted_name
quoted_name_kept room bytes more =
    after_pair _ _ (name_in_kept true room bytes more) (λ name rest. after_bytes _ _ (literal_kept (codes "\"") rest more)
    (λ past. known (λ _. refl)) refl) (λ name. refl)

same_name_byte : {A : Type 0} {x1 y1 : Result A LocalFault} (x2 x3 : Result A LocalFault) (kind : NameByte) → x1 ≡ y1
    → by_name_byte kind x1 x2 x3 ≡ by_name_byte kind y1 x2 x3
same_name_byte x2 x3 OfName h = h
same_name_byte x2 x3 Ends h = refl
same_name_byte x2 x3 Wrong h = refl

-- with room for all bytes, more room changes nothing
name_bytes_room : (quoted : Bool) (first : ℕ) (escaped : Bool) (room larger : ℕ) (bytes : List ℕ) → length bytes ≤ room →
    length bytes ≤ larger
    → name_bytes quoted first escaped room bytes ≡ name_bytes quoted first escaped larger bytes
unfolding name_bytes
name_bytes_room quoted first escaped zero zero [] h g = refl
name_bytes_room quoted first escaped zero (suc larger) [] h g = refl
name_bytes_room quoted first escaped (suc room) zero [] h g = refl
name_bytes_room quoted first escaped (suc room) (suc larger) [] h g = refl
name_bytes_room quoted first escaped zero larger (b ∷ bytes) h g = absurd (omega arith)
name_bytes_room quoted first escaped (suc room) zero (b ∷ bytes) h g = absurd (omega arith)
name_bytes_room quoted first escaped (suc room) (suc larger) (b ∷ bytes) h g =
    same_name_byte _ _ (name_byte quoted escaped b) (ap (λ (r : Result (List ℕ × List ℕ) LocalFault). r >>= λ x. Ok (b ∷ x.0, x.1))
    (name_bytes_room quoted first (not escaped && b == 92) room larger bytes (omega arith) (omega arith)))

pub name_in_room : (quoted : Bool) (room larger : ℕ) (bytes : List ℕ) → length bytes ≤ room → length bytes ≤ larger →
    name_in quoted room bytes ≡ name_in quoted larger bytes
unfolding name_in
name_in_room quoted room larger bytes h g = rw (name_bytes_room quoted (length bytes) false room larger bytes h g)

pub quoted_name_room : (room larger : ℕ) (bytes : List ℕ) → length bytes ≤ room → length bytes ≤ larger → quoted_name room bytes
    ≡ quoted_name larger bytes
unfolding quoted_name
quoted_name_room room larger bytes h g = rw (name_in_room true room larger bytes h g)
