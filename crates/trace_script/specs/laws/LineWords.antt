-- The words of a line, taken one by one from its front.
use Rattle.std.proofs.Common.{ℕ, ◌==◌, ◌≡◌, ◌<◌, ◌≤◌, ◌+◌, ◌-◌, Bool, true, false, List, [], ◌∷◌, length, filter, not, drop, get_or, arith}
use Rattle.std.proofs.Common.{sym, ap, refl, ◌∙◌, cond, take_all, suc, inl, inr}
use Rattle.std.specs.List.{slice_split, prefix_len, position_or_len, before_first, after_first}
use Rattle.std.proofs.lemmas.Bool.{cases_lt, ne_eqb, false≢true}
use Rattle.std.proofs.lemmas.List.{drop_more, drop_all, length-drop, get_or-drop, length-take-le, length-take}
use Rattle.std.proofs.lemmas.List.Elements.{All-from_get_or}
use Rattle.std.proofs.lemmas.List.Sums.{prefix_len_stops, prefix_len-le-length, fails_before_first, passes_at_first}
use Rattle.std.proofs.lemmas.List.Splits.{slice_split_none, slice_split_first, slice_split-cons_yes}
use Rattle.trace_script.specs.Script.{is_blank, words_of}

-- the non-empty parts alone
abbrev non_empty : List (List ℕ) → List (List ℕ)
non_empty parts = filter (λ part. not (length part == 0)) parts

kept : (part : List ℕ) (parts : List (List ℕ)) → 0 < length part → non_empty (part ∷ parts) ≡ part ∷ non_empty parts
kept part parts h = ap (λ empty. cond (not empty) (part ∷ non_empty parts) (non_empty parts)) (ne_eqb (length part) 0 (λ e. omega arith))

-- a blank before some text adds no word
past_blank : (x : ℕ) (xs : List ℕ) → is_blank x ≡ true → words_of (x ∷ xs) ≡ words_of xs
past_blank x xs e = ap non_empty (slice_split-cons_yes is_blank x xs e)

-- the blanks in front of a text add no word
past_blanks : (xs : List ℕ) → words_of xs ≡ words_of (drop (prefix_len is_blank xs) xs)
past_blanks [] = refl
past_blanks (x ∷ xs) = by (past_blanks xs) (is_blank x) refl
  where
    by : words_of xs ≡ words_of (drop (prefix_len is_blank xs) xs) → (b : Bool) → is_blank x ≡ b → words_of (x ∷ xs)
        ≡ words_of (drop (cond b (1 + prefix_len is_blank xs) 0) (x ∷ xs))
    by rest true e =
        let next : suc (prefix_len is_blank xs) ≡ 1 + prefix_len is_blank xs = omega arith in
        past_blank x xs e ∙ rest ∙ ap (λ k. words_of (drop k (x ∷ xs))) next
    by rest false e = refl

-- a text that begins with no blank begins with its first word
module _ (xs : List ℕ) where
  abbrev n : ℕ
  n = position_or_len is_blank xs

  abbrev front : List ℕ
  front = before_first is_blank xs

  followed : 0 < n → n < length xs → words_of xs ≡ front ∷ words_of (drop n xs)
  followed some h =
      let long = length-take-le n xs (omega arith) in
      let after = slice_split is_blank (after_first is_blank xs) in
      let here = ap non_empty (slice_split_first is_blank xs 0 h) ∙ kept front after (omega arith) in
      let there = ap (slice_split is_blank) (drop_more xs n 0 h) ∙ slice_split-cons_yes is_blank (get_or xs n 0) (drop (n + 1) xs)
      (passes_at_first is_blank xs 0 h) in
      here ∙ ap (λ ps. front ∷ non_empty ps) (sym there)

  alone : 0 < n → length xs ≤ n → words_of xs ≡ front ∷ words_of (drop n xs)
  alone some h =
      let none : (k : ℕ) → k < length xs → is_blank (get_or xs k 0) ≡ false = λ k l. fails_before_first is_blank xs k 0 (omega arith) in
      let whole = slice_split_none is_blank xs (All-from_get_or (λ x. is_blank x ≡ false) xs 0 none) in
      let long = prefix_len-le-length (λ x. not (is_blank x)) xs in
      ap non_empty whole
      ∙ kept xs [] (omega arith)
      ∙ ap (λ l. l ∷ []) (sym (take_all n xs h))
      ∙ ap (λ l. front ∷ words_of l) (sym (drop_all n xs h))

  first_word : 0 < n → words_of xs ≡ front ∷ words_of (drop n xs)
  first_word some = elim (cases_lt n (length xs)) [ inl h ↦ followed some h | inr h ↦ alone some h ]

-- one step over a text xs: past the blanks in front of it, and then over what comes before the next blank
module _ (xs : List ℕ) where
  abbrev rest : List ℕ
  rest = drop (prefix_len is_blank xs) xs

  long : length rest ≡ length xs - prefix_len is_blank xs
  long = length-drop (prefix_len is_blank xs) xs

  -- after the blanks there is something before the next blank, unless nothing is left
  runs_on : 0 < length rest → 0 < position_or_len is_blank rest
  runs_on some = elim (cases_lt 0 (position_or_len is_blank rest)) [ inl h ↦ h | inr h ↦ absurd (stuck h) ]
    where
      stuck : position_or_len is_blank rest ≤ 0 → ⊥
      stuck h =
          let start : position_or_len is_blank rest ≡ 0 = omega arith in
          let blank = passes_at_first is_blank rest 0 (omega arith) in
          let none = prefix_len_stops is_blank xs 0 (omega (arith, long)) in
          let same : get_or rest (position_or_len is_blank rest) 0 ≡ get_or xs (prefix_len is_blank xs) 0 =
          ap (λ k. get_or rest k 0) start ∙ get_or-drop (prefix_len is_blank xs) xs 0 0 ∙ ap (λ k. get_or xs k 0) (omega arith) in
          false≢true (sym none ∙ ap is_blank (sym same) ∙ blank)

  pub step_at_word : (front left : List ℕ) → front ≡ before_first is_blank rest → left ≡ drop (position_or_len is_blank rest) rest →
      0 < length front → words_of xs ≡ front ∷ words_of left
  step_at_word front left e f some =
      let size : length (before_first is_blank rest) ≤ length rest = omega (arith, length-take (position_or_len is_blank rest) rest) in
      let more : 0 < length rest = omega (arith, ap length e) in
      past_blanks xs ∙ first_word rest (runs_on more) ∙ ap (λ l. l ∷ words_of (drop (position_or_len is_blank rest) rest)) (sym e)
      ∙ ap (λ l. front ∷ words_of l) (sym f)

  pub step_at_end : (front left : List ℕ) → front ≡ before_first is_blank rest → left ≡ drop (position_or_len is_blank rest) rest →
      length front ≡ 0 → (words_of xs ≡ []) × (words_of left ≡ [])
  step_at_end front left e f none = elim (cases_lt 0 (length rest)) [ inl h ↦ absurd (more h) | inr h ↦ ended h ]
    where
      more : 0 < length rest → ⊥
      more h = omega (arith, runs_on h, ap length e, length-take (position_or_len is_blank rest) rest)

      ended : length rest ≤ 0 → (words_of xs ≡ []) × (words_of left ≡ [])
      ended h =
          let over : left ≡ [] = f ∙ drop_all (position_or_len is_blank rest) rest (omega arith) in
          let gone : rest ≡ [] = drop_all 0 rest h in
          (past_blanks xs ∙ ap words_of gone, ap words_of over)
