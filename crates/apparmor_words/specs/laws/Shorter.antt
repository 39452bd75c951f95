-- What is left after a part of a text is shorter than what was there.
use Rattle.std.proofs.Common.{◌≡◌, ℕ, ◌≤◌, ◌<◌, Bool, true, false, not, cond, List, [], ◌∷◌, ◌++◌, length, drop}
use Rattle.std.proofs.Common.{Option, Some, None, Result, Ok, refl, ap, ◌∙◌, ◌⊎◌, inl, inr, ◌==◌, eq-eqb, arith}
use Rattle.std.specs.Prelude.{◌&&◌, ◌||◌, nat_eq, codes}
use Rattle.std.specs.List.{starts_with}
use Rattle.std.proofs.lemmas.Bool.{cases_lt, and_parts}
use Rattle.std.proofs.lemmas.List.{length-append, length-drop}
use Rattle.rule_reader.specs.TextBytes.{begins, is_white, is_hash, opens_blank, is_include, is_quote, is_comma, is_word_byte}
use Rattle.rule_reader.specs.TextBytes.{is_open_brace}
use Rattle.rule_reader.specs.ReadWords.{after, leading, word, after_word}
use Rattle.rule_reader.specs.laws.ReadRuns.{leading_parts}
use Rattle.apparmor_words.specs.declared.statement.Unclosed.{Unclosed}
use Rattle.apparmor_words.specs.declared.words.Quoted.{Quoted}
use Rattle.apparmor_words.specs.Blanks.{is_blank}
use Rattle.apparmor_words.specs.Steps.{Stop, ◌>>=◌, syntax_here}
use Rattle.apparmor_words.specs.Words.{blank_at, comma_ends, is_doubtful, bare_at, quote_opened, quoted_step, quoted_at, word_end}
use Rattle.apparmor_words.specs.Statements.{statement_step, statement_at, past_word, past_byte, past_equals, past_boolean_name, is_space}
use Rattle.apparmor_words.specs.Statements.{boolean_at, nothing_open, statement_end}
use Rattle.apparmor_words.specs.Assignments.{past_use}
use Rattle.apparmor_words.specs.laws.Steps.{bind_ok, chosen, ok_is, not_ok}

-- ---- blanks

-- what is left is the end of the bytes, and what precedes it is blank
abbrev pub BlankBefore : Bool → List ℕ → List ℕ → Type 0
BlankBefore comment bytes rest = (front : List ℕ) × (bytes ≡ front ++ rest) × (is_blank comment front ≡ true)

pub blank_before : (comment : Bool) (bytes rest : List ℕ) → blank_at comment bytes ≡ Ok rest → BlankBefore comment bytes rest
blank_before true [] rest e = ([], ok_is [] rest e, refl)
blank_before false [] rest e = ([], ok_is [] rest e, refl)
blank_before true (b ∷ bytes) rest e =
    let h = blank_before (not (b == 10)) bytes rest e in
    (b ∷ h.0, ap (λ (x : List ℕ). b ∷ x) h.1, h.2)
blank_before false (b ∷ bytes) rest e =
    elim (chosen (is_white b) _ _ _ e) [
      | inl w ↦
          let h = blank_before false bytes rest w.1 in
          (b ∷ h.0, ap (λ (x : List ℕ). b ∷ x) h.1, ap (λ t. cond t (is_blank false h.0) (is_hash b && is_blank true h.0)) w.0 ∙ h.2)
      | inr w ↦ elim (chosen (is_hash b) _ _ _ w.1) [
        | inr n ↦ ([], ok_is (b ∷ bytes) rest n.1, refl)
        | inl c ↦ elim (chosen (is_include (b ∷ bytes)) _ _ _ c.1) [
          | inl i ↦ absurd (not_ok _ rest i.1)
          | inr i ↦
              let h = blank_before true bytes rest i.1 in (
                b ∷ h.0,
                ap (λ (x : List ℕ). b ∷ x) h.1,
                ap (λ t. cond t (is_blank false h.0) (is_hash b && is_blank true h.0)) w.0 ∙ ap (λ t. t && is_blank true h.0) c.0 ∙ h.2,
              )
        ]
      ]
    ]

-- ---- words

pub bare_shorter : (escaped : Bool) (bytes rest : List ℕ) → bare_at escaped bytes ≡ Ok rest → length rest ≤ length bytes
bare_shorter escaped [] rest e = let h = ap length (ok_is [] rest e) in omega (arith, h)
bare_shorter escaped (b ∷ bytes) rest e =
    elim (chosen (b == 0) _ _ _ e) [
      | inl h ↦ absurd (not_ok _ rest h.1)
      | inr h ↦ elim (chosen (not escaped && (is_white b || is_quote b || (is_comma b && comma_ends bytes))) _ _ _ h.1) [
        | inl g ↦ let l = ap length (ok_is (b ∷ bytes) rest g.1) in omega (arith, l)
        | inr g ↦ elim (chosen (not escaped && is_doubtful b bytes) _ _ _ g.1) [
          | inl d ↦ absurd (not_ok _ rest d.1)
          | inr d ↦ let l = bare_shorter (not escaped && b == 92) bytes rest d.1 in omega (arith, l)
        ]
      ]
    ]

quoted_behind : (b : ℕ) (bytes rest : List ℕ) (next : Option Quoted) → ((at : Quoted) → quoted_at at bytes ≡ Ok rest →
    length rest < length bytes)
    → ◌≡◌ {A = Result (List ℕ) Stop} (elim next [ None ↦ Ok bytes | Some at ↦ quoted_at at bytes ]) (Ok rest) →
    length rest < length (b ∷ bytes)
quoted_behind b bytes rest None h e = let l = ap length (ok_is bytes rest e) in omega (arith, l)
quoted_behind b bytes rest (Some at) h e = let l = h at e in omega (arith, l)

pub quoted_shorter : (before : Quoted) (bytes rest : List ℕ) → quoted_at before bytes ≡ Ok rest → length rest < length bytes
quoted_shorter before [] rest e = absurd (not_ok _ rest e)
quoted_shorter before (b ∷ bytes) rest e =
    let p = bind_ok (quoted_step before b bytes) (λ next. elim next [ None ↦ Ok bytes | Some at ↦ quoted_at at bytes ]) rest e in
    quoted_behind b bytes rest p.0 (λ at. quoted_shorter at bytes rest) p.2

pub word_shorter : (bytes rest : List ℕ) → word_end bytes ≡ Ok rest → length rest < length bytes
unfolding word_end
word_shorter [] rest e = absurd cc
word_shorter (b ∷ bytes) rest e =
    elim (chosen (is_quote b) _ _ _ e) [
      | inl h ↦ let l = quoted_shorter quote_opened bytes rest h.1 in omega (arith, l)
      | inr h ↦
          let p = bind_ok (bare_at false (b ∷ bytes)) (λ rest. cond (length rest == length (b ∷ bytes)) (syntax_here (b ∷ bytes))
          (Ok rest)) rest h.1 in
          elim (chosen (length p.0 == length (b ∷ bytes)) _ _ _ p.2) [
            | inl g ↦ absurd (not_ok _ rest g.1)
            | inr g ↦
                let same = ap length (ok_is p.0 rest g.1) in
                let l = bare_shorter false (b ∷ bytes) p.0 p.1 in
                let n = length_differs (length p.0) (length (b ∷ bytes)) g.0 in
                elim (less_or_same (length p.0) (length (b ∷ bytes)) l) [
                  | inl less ↦ omega (arith, same, less)
                  | inr s ↦ absurd (n s)
                ]
          ]
    ]
  where
    length_differs : (n m : ℕ) → (n == m) ≡ false → n ≡ m → ⊥
    length_differs n m e s = let t = eq-eqb n m s in absurd cc

    less_or_same : (n m : ℕ) → n ≤ m → (n < m) ⊎ (n ≡ m)
    less_or_same n m h = elim (cases_lt n m) [ inl l ↦ inl l | inr g ↦ inr (omega (arith, g, h)) ]

-- bytes that begin with a blank are shorter after it
blank_shorter : (comment : Bool) (bytes rest : List ℕ) → blank_at comment bytes ≡ Ok rest → length rest ≤ length bytes
blank_shorter comment bytes rest e =
    let h = blank_before comment bytes rest e in
    let a = ap length h.1 in
    let b = length-append h.0 rest in
    omega (arith, a, b)

pub opened_shorter : (bytes rest : List ℕ) → begins opens_blank bytes ≡ true → blank_at false bytes ≡ Ok rest → length rest < length bytes
opened_shorter [] rest h e = absurd cc
opened_shorter (b ∷ bytes) rest h e =
    elim (chosen (is_white b) _ _ _ e) [
      | inl w ↦ let l = blank_shorter false bytes rest w.1 in omega (arith, l)
      | inr w ↦ elim (chosen (is_hash b) _ _ _ w.1) [
        | inr n ↦ absurd (neither (is_white b) (is_hash b) w.0 n.0 h)
        | inl c ↦ elim (chosen (is_include (b ∷ bytes)) _ _ _ c.1) [
          | inl i ↦ absurd (not_ok _ rest i.1)
          | inr i ↦ let l = blank_shorter true bytes rest i.1 in omega (arith, l)
        ]
      ]
    ]
  where
    neither : (w h : Bool) → w ≡ false → h ≡ false → (w || h) ≡ true → ⊥
    neither w h e f g = absurd cc

-- ---- statements

statement_behind : (b : ℕ) (bytes rest : List ℕ) (next : Option Unclosed) → ((o : Unclosed) → statement_at o bytes ≡ Ok rest →
    length rest < length bytes)
    → ◌≡◌ {A = Result (List ℕ) Stop} (elim next [ None ↦ Ok bytes | Some o ↦ statement_at o bytes ]) (Ok rest) →
    length rest < length (b ∷ bytes)
statement_behind b bytes rest None h e = let l = ap length (ok_is bytes rest e) in omega (arith, l)
statement_behind b bytes rest (Some o) h e = let l = h o e in omega (arith, l)

pub statement_shorter : (unclosed : Unclosed) (bytes rest : List ℕ) → statement_at unclosed bytes ≡ Ok rest → length rest < length bytes
statement_shorter unclosed [] rest e = absurd (not_ok _ rest e)
statement_shorter unclosed (b ∷ bytes) rest e =
    let p = bind_ok (statement_step unclosed b bytes) (λ next. elim next [ None ↦ Ok bytes | Some o ↦ statement_at o bytes ]) rest e in
    statement_behind b bytes rest p.0 (λ o. statement_shorter o bytes rest) p.2

pub after_shorter : (test : ℕ → Bool) (bytes : List ℕ) → length (after test bytes) ≤ length bytes
after_shorter test bytes =
    let e = ap length (leading_parts test bytes) in
    let a = length-append (leading test bytes) (after test bytes) in
    omega (arith, e, a)

word_past_shorter : (bytes rest : List ℕ) → past_word bytes ≡ Ok rest → length rest ≤ length bytes
word_past_shorter bytes rest e = elim (chosen (length (word bytes) == 0) _ _ _ e) [
  | inl h ↦ absurd (not_ok _ rest h.1)
  | inr h ↦ let s = ap length (ok_is (after_word bytes) rest h.1) in let l = after_shorter is_word_byte bytes in omega (arith, s, l)
]

-- a statement with its keyword
pub statement_end_shorter : (bytes rest : List ℕ) → statement_end bytes ≡ Ok rest → length rest < length bytes
statement_end_shorter bytes rest e =
    let p = bind_ok (past_word bytes) (λ behind. statement_at nothing_open behind) rest e in
    let a = word_past_shorter bytes p.0 p.1 in
    let b = statement_shorter nothing_open p.0 rest p.2 in
    omega (arith, a, b)

byte_past_shorter : (b : ℕ) (bytes rest : List ℕ) → past_byte b bytes ≡ Ok rest → length rest ≤ length bytes
byte_past_shorter b bytes rest e = elim (chosen (begins (λ c. c == b) bytes) _ _ _ e) [
  | inl h ↦ let s = ap length (ok_is (drop 1 bytes) rest h.1) in let l = length-drop 1 bytes in omega (arith, s, l)
  | inr h ↦ absurd (not_ok _ rest h.1)
]

equals_past_shorter : (bytes rest : List ℕ) → past_equals bytes ≡ Ok rest → length rest ≤ length bytes
equals_past_shorter bytes rest e =
    let p = bind_ok (past_byte 61 (after is_space bytes)) (λ rest. Ok (after is_space rest)) rest e in
    let a = after_shorter is_space bytes in
    let b = byte_past_shorter 61 (after is_space bytes) p.0 p.1 in
    let c = after_shorter is_space p.0 in
    let d = ap length (ok_is (after is_space p.0) rest p.2) in
    omega (arith, a, b, c, d)

name_shorter : (bytes rest : List ℕ) → past_boolean_name bytes ≡ Ok rest → length rest ≤ length bytes
name_shorter bytes rest e = elim (chosen (begins is_open_brace bytes) _ _ _ e) [
  | inr h ↦ word_past_shorter bytes rest h.1
  | inl h ↦
      let p = bind_ok (past_word (drop 1 bytes)) (λ r. past_byte 125 r) rest h.1 in
      let a = word_past_shorter (drop 1 bytes) p.0 p.1 in
      let b = byte_past_shorter 125 p.0 rest p.2 in
      let c = length-drop 1 bytes in
      omega (arith, a, b, c)
]

pub boolean_shorter : (bytes rest : List ℕ) → boolean_at bytes ≡ Ok rest → length rest ≤ length bytes
boolean_shorter bytes rest e =
    let p = bind_ok (past_boolean_name bytes) (λ name. past_equals name >>= λ value. past_word value) rest e in
    let q = bind_ok (past_equals p.0) (λ value. past_word value) rest p.2 in
    let a = name_shorter bytes p.0 p.1 in
    let b = equals_past_shorter p.0 q.0 q.1 in
    let c = word_past_shorter q.0 rest q.2 in
    omega (arith, a, b, c)

-- ---- assignments

-- whitespace is blank
pub leading_white : (bytes : List ℕ) → is_blank false (leading is_white bytes) ≡ true
leading_white [] = refl
leading_white (b ∷ bytes) = at (is_white b) refl (leading_white bytes)
  where
    at : (t : Bool) → is_white b ≡ t → is_blank false (leading is_white bytes) ≡ true →
        is_blank false (cond t (b ∷ leading is_white bytes) []) ≡ true
    at true e h = ap (λ t. cond t (is_blank false (leading is_white bytes)) (is_hash b && is_blank true (leading is_white bytes))) e ∙ h
    at false e h = refl

pub use_shorter : (bytes rest : List ℕ) → past_use bytes ≡ Some rest → length rest < length bytes
use_shorter bytes rest e = at (starts_with nat_eq bytes (codes "@{") && not (length (word (drop 2 bytes)) == 0) && begins (λ b. b == 125)
    (after_word (drop 2 bytes))) refl e
  where
    some_is : {A : Type 0} (x y : A) → Some x ≡ Some y → x ≡ y
    some_is x y e = cc

    first_there : (bs : List ℕ) → begins (λ b. b == 125) bs ≡ true → 0 < length bs
    first_there [] h = absurd cc
    first_there (b ∷ bs) h = omega arith

    at : (b : Bool) → (starts_with nat_eq bytes (codes "@{") && not (length (word (drop 2 bytes)) == 0) && begins (λ b. b == 125)
        (after_word (drop 2 bytes))) ≡ b
        → cond b (Some (drop 1 (after_word (drop 2 bytes)))) None ≡ Some rest → length rest < length bytes
    at true t e =
        let there = first_there (after_word (drop 2 bytes)) (and_parts _ (begins (λ b. b == 125) (after_word (drop 2 bytes))) t).1 in
        let a = ap length (some_is (drop 1 (after_word (drop 2 bytes))) rest e) in
        let b = length-drop 1 (after_word (drop 2 bytes)) in
        let c = after_shorter is_word_byte (drop 2 bytes) in
        let d = length-drop 2 bytes in
        omega (arith, a, b, c, d, there)
    at false t e = absurd cc
