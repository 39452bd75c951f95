-- The components of a text, taken one by one from its front.
use Rattle.std.proofs.Common.{ℕ, ◌≡◌, ◌<◌, ◌≤◌, ◌+◌, ◌-◌, Bool, true, false, List, [], ◌∷◌, ◌++◌, length, filter, not, drop, get_or, arith}
use Rattle.std.proofs.Common.{sym, ap, refl, ◌∙◌, cond, take_all, suc, inl, inr}
use Rattle.std.specs.List.{slice_split, onto_first, prefix_len, position_or_len, before_first, after_first}
use Rattle.std.proofs.lemmas.Bool.{cases_lt, ne_eqb, false≢true}
use Rattle.std.proofs.lemmas.List.{drop_more, drop_all, length-drop, get_or-drop, length-take-le, length-take, length-append, append-nil}
use Rattle.std.proofs.lemmas.List.Elements.{All-from_get_or}
use Rattle.std.proofs.lemmas.List.Sums.{prefix_len_passes, prefix_len_stops, prefix_len-le-length, fails_before_first, passes_at_first}
use Rattle.std.proofs.lemmas.List.Splits.{slice_split_none, slice_split_first, slice_split-cons_yes, slice_split-cons_no}
use Rattle.names.specs.Paths.{is_slash, is_empty, begins_with_slash, ends_with_slash, components}

-- the non-empty parts alone
abbrev non_empty : List (List ℕ) → List (List ℕ)
non_empty parts = filter (λ part. not (is_empty part)) parts

kept : (part : List ℕ) (parts : List (List ℕ)) → 0 < length part → non_empty (part ∷ parts) ≡ part ∷ non_empty parts
kept part parts h = ap (λ empty. cond (not empty) (part ∷ non_empty parts) (non_empty parts)) (ne_eqb (length part) 0 (λ e. omega arith))

-- what is left of a text ends as the text does
pub ends_alike : (xs : List ℕ) (n : ℕ) → n < length xs → ends_with_slash (drop n xs) ≡ ends_with_slash xs
ends_alike xs n h =
    let at : n + (length (drop n xs) - 1) ≡ length xs - 1 = omega (arith, length-drop n xs) in
    ap is_slash (get_or-drop n xs (length (drop n xs) - 1) 0 ∙ ap (λ k. get_or xs k 0) at)

-- the components, from the parts and from whether the text ends with a slash
abbrev closed : List (List ℕ) → Bool → List (List ℕ)
closed parts ends = parts ++ cond ends ((46 ∷ []) ∷ []) []

-- a slash before some text adds no component
past_slash : (x : ℕ) (xs : List ℕ) → is_slash x ≡ true → 0 < length xs → components (x ∷ xs) ≡ components xs
past_slash x xs e h =
    let end = ends_alike (x ∷ xs) 1 (omega arith) in
    ap (λ ps. closed (non_empty ps) (ends_with_slash (x ∷ xs))) (slice_split-cons_yes is_slash x xs e)
    ∙ ap (closed (non_empty (slice_split is_slash xs))) (sym end)

-- the slashes in front of a text add no component
pub past_slashes : (xs : List ℕ) → prefix_len is_slash xs < length xs → components xs ≡ components (drop (prefix_len is_slash xs) xs)
past_slashes [] h = absurd (omega arith)
past_slashes (x ∷ xs) h = by (past_slashes xs) (is_slash x) refl h
  where
    by : (prefix_len is_slash xs < length xs → components xs ≡ components (drop (prefix_len is_slash xs) xs)) → (b : Bool) →
        is_slash x ≡ b → cond b (1 + prefix_len is_slash xs) 0 < length (x ∷ xs) → components (x ∷ xs)
        ≡ components (drop (cond b (1 + prefix_len is_slash xs) 0) (x ∷ xs))
    by rest true e l =
        let next : suc (prefix_len is_slash xs) ≡ 1 + prefix_len is_slash xs = omega arith in
        past_slash x xs e (omega arith) ∙ rest (omega arith) ∙ ap (λ k. components (drop k (x ∷ xs))) next
    by rest false e l = refl

-- slashes alone are the component `.`
pub slashes_alone : (xs : List ℕ) → 0 < length xs → length xs ≤ prefix_len is_slash xs → components xs ≡ (46 ∷ []) ∷ []
slashes_alone [] some all = absurd (omega arith)
slashes_alone (x ∷ []) some all =
    let e = prefix_len_passes is_slash (x ∷ []) 0 0 (omega arith) in
    ap (λ ps. closed (non_empty ps) (ends_with_slash (x ∷ []))) (slice_split-cons_yes is_slash x [] e) ∙ ap (closed []) e
slashes_alone (x ∷ y ∷ ys) some all = by (slashes_alone (y ∷ ys) (omega arith)) (is_slash x) refl all
  where
    by : (length (y ∷ ys) ≤ prefix_len is_slash (y ∷ ys) → components (y ∷ ys) ≡ (46 ∷ []) ∷ []) → (b : Bool) → is_slash x ≡ b →
        length (x ∷ y ∷ ys) ≤ cond b (1 + prefix_len is_slash (y ∷ ys)) 0 → components (x ∷ y ∷ ys) ≡ (46 ∷ []) ∷ []
    by rest true e l = past_slash x (y ∷ ys) e (omega arith) ∙ rest (omega arith)
    by rest false e l = absurd (omega arith)

-- a byte before the parts adds one part at most
fewer : (part : List ℕ) (parts : List (List ℕ)) → length (non_empty parts) ≤ length (non_empty (part ∷ parts))
fewer part parts = by (is_empty part)
  where
    by : (b : Bool) → length (non_empty parts) ≤ length (cond (not b) (part ∷ non_empty parts) (non_empty parts))
    by true = omega arith
    by false = omega arith

onto_more : (x : ℕ) (parts : List (List ℕ)) → length (non_empty (onto_first x parts)) ≤ 1 + length (non_empty parts)
onto_more x [] = omega (arith, ap length (kept (x ∷ []) [] (omega arith)))
onto_more x (part ∷ parts) = omega (arith, ap length (kept (x ∷ part) parts (omega arith)), fewer part parts)

one_more : (x : ℕ) (xs : List ℕ) → 0 < length xs → length (components xs) ≤ length xs → length (components (x ∷ xs)) ≤ length (x ∷ xs)
one_more x xs some rest = by (is_slash x) refl
  where
    by : (b : Bool) → is_slash x ≡ b → length (components (x ∷ xs)) ≤ length (x ∷ xs)
    by true e = omega (arith, ap length (past_slash x xs e some))
    by false e =
        let parts = ap (λ ps. length (non_empty ps)) (slice_split-cons_no is_slash x xs e) in
        let more = onto_more x (slice_split is_slash xs) in
        let ends = ap (λ b. length (closed [] b)) (ends_alike (x ∷ xs) 1 (omega arith)) in
        omega (
          arith,
          length-append (non_empty (slice_split is_slash xs)) (closed [] (ends_with_slash xs)),
          length-append
              (non_empty (slice_split is_slash (x ∷ xs))) (closed [] (ends_with_slash (x ∷ xs))),
        )

-- a text has no more components than bytes
pub components_few : (xs : List ℕ) → length (components xs) ≤ length xs
components_few [] = omega arith
components_few (x ∷ []) = by (is_slash x) refl
  where
    by : (b : Bool) → is_slash x ≡ b → length (components (x ∷ [])) ≤ 1
    by true e =
        let alone = ap (λ b. length (closed [] b)) e in
        let parts = ap (λ ps. length (closed (non_empty ps) (is_slash x))) (slice_split-cons_yes is_slash x [] e) in
        omega arith
    by false e =
        let alone = ap (λ b. length (closed (non_empty ((x ∷ []) ∷ [])) b)) e in
        let parts = ap (λ ps. length (closed (non_empty ps) (is_slash x))) (slice_split-cons_no is_slash x [] e) in
        let one = ap length (kept (x ∷ []) [] (omega arith)) in
        omega (arith, ap length (append-nil (non_empty ((x ∷ []) ∷ []))))
components_few (x ∷ y ∷ ys) = one_more x (y ∷ ys) (omega arith) (components_few (y ∷ ys))

-- a text that begins with no slash begins with its first component
module _ (xs : List ℕ) where
  abbrev n : ℕ
  n = position_or_len is_slash xs

  abbrev front : List ℕ
  front = before_first is_slash xs

  followed : 0 < n → n < length xs → components xs ≡ front ∷ components (drop n xs)
  followed some h =
      let long = length-take-le n xs (omega arith) in
      let after = slice_split is_slash (after_first is_slash xs) in
      let here = ap non_empty (slice_split_first is_slash xs 0 h) ∙ kept front after (omega arith) in
      let there = ap (slice_split is_slash) (drop_more xs n 0 h) ∙ slice_split-cons_yes is_slash (get_or xs n 0) (drop (n + 1) xs)
      (passes_at_first is_slash xs 0 h) in
      ap (λ ps. closed ps (ends_with_slash xs)) here
      ∙ ap (λ b. front ∷ closed (non_empty after) b) (sym (ends_alike xs n h))
      ∙ ap (λ ps. front ∷ closed (non_empty ps) (ends_with_slash (drop n xs))) (sym there)

  alone : 0 < n → length xs ≤ n → components xs ≡ front ∷ components (drop n xs)
  alone some h =
      let none : (k : ℕ) → k < length xs → is_slash (get_or xs k 0) ≡ false = λ k l. fails_before_first is_slash xs k 0 (omega arith) in
      let whole = slice_split_none is_slash xs (All-from_get_or (λ x. is_slash x ≡ false) xs 0 none) in
      let long = prefix_len-le-length (λ x. not (is_slash x)) xs in
      ap (λ ps. closed (non_empty ps) (ends_with_slash xs)) whole
      ∙ ap (λ ps. closed ps (ends_with_slash xs)) (kept xs [] (omega arith))
      ∙ ap (closed (xs ∷ [])) (none (length xs - 1) (omega arith))
      ∙ ap (λ l. l ∷ []) (sym (take_all n xs h))
      ∙ ap (λ l. front ∷ components l) (sym (drop_all n xs h))

  pub first_component : 0 < n → components xs ≡ front ∷ components (drop n xs)
  first_component some = elim (cases_lt n (length xs)) [ inl h ↦ followed some h | inr h ↦ alone some h ]

-- one step over a text xs: past the slashes in front of it, and then over what comes before the next slash
module _ (xs : List ℕ) where
  abbrev rest : List ℕ
  rest = drop (prefix_len is_slash xs) xs

  long : length rest ≡ length xs - prefix_len is_slash xs
  long = length-drop (prefix_len is_slash xs) xs

  -- past the slashes something comes before the next slash, unless nothing is left
  runs_on : 0 < length rest → 0 < position_or_len is_slash rest
  runs_on some = elim (cases_lt 0 (position_or_len is_slash rest)) [ inl h ↦ h | inr h ↦ absurd (stuck h) ]
    where
      stuck : position_or_len is_slash rest ≤ 0 → ⊥
      stuck h =
          let start : position_or_len is_slash rest ≡ 0 = omega arith in
          let slash = passes_at_first is_slash rest 0 (omega arith) in
          let none = prefix_len_stops is_slash xs 0 (omega (arith, long)) in
          let same : get_or rest (position_or_len is_slash rest) 0 ≡ get_or xs (prefix_len is_slash xs) 0 =
          ap (λ k. get_or rest k 0) start ∙ get_or-drop (prefix_len is_slash xs) xs 0 0 ∙ ap (λ k. get_or xs k 0) (omega arith) in
          false≢true (sym none ∙ ap is_slash (sym same) ∙ slash)

  pub step_at_part : (front left : List ℕ) → front ≡ before_first is_slash rest → left ≡ drop (position_or_len is_slash rest) rest →
      0 < length front → components xs ≡ front ∷ components left
  step_at_part front left e f some =
      let size : length (before_first is_slash rest) ≤ length rest = omega (arith, length-take (position_or_len is_slash rest) rest) in
      let more : 0 < length rest = omega (arith, ap length e) in
      past_slashes xs (omega (arith, long)) ∙ first_component rest (runs_on more)
      ∙ ap (λ l. l ∷ components (drop (position_or_len is_slash rest) rest)) (sym e) ∙ ap (λ l. front ∷ components l) (sym f)

  pub step_at_end : (front left : List ℕ) → front ≡ before_first is_slash rest → left ≡ drop (position_or_len is_slash rest) rest →
      length front ≡ 0 → 0 < length xs → components xs ≡ (46 ∷ []) ∷ components left
  step_at_end front left e f none some = elim (cases_lt 0 (length rest)) [ inl h ↦ absurd (more h) | inr h ↦ slashes h ]
    where
      more : 0 < length rest → ⊥
      more h = omega (arith, runs_on h, ap length e, length-take (position_or_len is_slash rest) rest)

      slashes : length rest ≤ 0 → components xs ≡ (46 ∷ []) ∷ components left
      slashes h =
          let ended : left ≡ [] = f ∙ drop_all (position_or_len is_slash rest) rest (omega arith) in
          slashes_alone xs some (omega (arith, long)) ∙ ap (λ l. (46 ∷ []) ∷ components l) (sym ended)

  pub left_shorter : (left : List ℕ) → left ≡ drop (position_or_len is_slash rest) rest → 0 < length xs → length left < length xs
  left_shorter left f some =
      let size = length-drop (position_or_len is_slash rest) rest in
      elim (cases_lt 0 (length rest)) [
        | inl h ↦ omega (arith, runs_on h, long, size, ap length f)
        | inr h ↦ omega (arith, size, ap length f)
      ]

  pub left_slash : (left : List ℕ) → left ≡ drop (position_or_len is_slash rest) rest → 0 < length left → begins_with_slash left ≡ true
  left_slash left f some =
      let size = length-drop (position_or_len is_slash rest) rest in
      let at : position_or_len is_slash rest + 0 ≡ position_or_len is_slash rest = omega arith in
      ap begins_with_slash f
      ∙ ap is_slash (get_or-drop (position_or_len is_slash rest) rest 0 0 ∙ ap (λ k. get_or rest k 0) at)
      ∙ passes_at_first is_slash rest 0 (omega (arith, size, ap length f))

-- a text that isn't empty has a component
pub some_component : (xs : List ℕ) → 0 < length xs → 0 < length (components xs)
some_component xs some =
    let left = drop (position_or_len is_slash (drop (prefix_len is_slash xs) xs)) (drop (prefix_len is_slash xs) xs) in
    let front = before_first is_slash (drop (prefix_len is_slash xs) xs) in
    elim (cases_lt 0 (length front)) [
      | inl h ↦ omega (arith, ap length (step_at_part xs front left refl refl h))
      | inr h ↦ omega (arith, ap length (step_at_end xs front left refl refl (omega arith) some))
    ]
