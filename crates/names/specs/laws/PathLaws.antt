-- What every component is like, and the components of joined texts.
use Rattle.std.proofs.Common.{ℕ, ◌≡◌, ◌<◌, ◌≤◌, ◌≢◌, ◌-◌, Bool, true, false, List, [], ◌∷◌, ◌++◌, length, filter, not, get_or, arith, sym}
use Rattle.std.proofs.Common.{ap, refl, ◌∙◌, cond, suc, nat_lt, ◌==◌, Option, Some, None}
use Rattle.std.specs.List.{slice_split, onto_first, All, list_any}
use Rattle.std.proofs.lemmas.Bool.{not-true, eqb-false, ltb-false, le-ltb, false_from_ne_true, false≢true}
use Rattle.std.proofs.lemmas.List.{length-append, get_or-append_right, append_assoc, append-nil}
use Rattle.std.proofs.lemmas.List.Elements.{All-nil, All-cons, All-head, All-tail, All-append, All-filter, filter_passes, filter-append}
use Rattle.std.proofs.lemmas.List.Folds.{list_any_at, list_any_none}
use Rattle.std.proofs.lemmas.List.Splits.{length-slice_split}
use Rattle.names.specs.declared.errors.Errno.TheVariants.{ENOENT, EINVAL, ENAMETOOLONG}
use Rattle.names.specs.Paths.{is_slash, is_empty, begins_with_slash, ends_with_slash, closing_component, components, has_long_component}
use Rattle.names.specs.Paths.{path_fault, IsPart, IsPathComponent}
use Rattle.names.specs.laws.PathLemmas.{components_few}

abbrev some : List ℕ → Bool
some part = not (is_empty part)

-- every byte of a cut-out part has P, if each byte that doesn't cut has it
module _ (P : ℕ → Type 0) where
  onto : (x : ℕ) (parts : List (List ℕ)) → P x → All (All P) parts → All (All P) (onto_first x parts)
  onto x [] px h = All-cons (All P) (x ∷ []) [] (All-cons P x [] px (All-nil P)) (All-nil (All P))
  onto x (part ∷ parts) px h = All-cons (All P) (x ∷ part) parts (All-cons P x part px (All-head (All P) part parts h))
      (All-tail (All P) part parts h)

  pub parts_have : (xs : List ℕ) → ((k : ℕ) (d : ℕ) → k < length xs → is_slash (get_or xs k d) ≡ false → P (get_or xs k d)) →
      All (All P) (slice_split is_slash xs)
  parts_have [] each = All-cons (All P) [] [] (All-nil P) (All-nil (All P))
  parts_have (x ∷ xs) each = by (is_slash x) refl (parts_have xs (λ k d l. each (suc k) d (omega arith)))
    where
      by : (b : Bool) → is_slash x ≡ b → All (All P) (slice_split is_slash xs) →
          All (All P) (cond b ([] ∷ slice_split is_slash xs) (onto_first x (slice_split is_slash xs)))
      by true e rest = All-cons (All P) [] (slice_split is_slash xs) (All-nil P) rest
      by false e rest = onto x (slice_split is_slash xs) (each 0 0 (omega arith) e) rest

-- the closing `.` has P if `.` has
closing_has : (P : List ℕ → Type 0) (xs : List ℕ) → P (46 ∷ []) → All P (closing_component xs)
closing_has P xs h = by (ends_with_slash xs)
  where
    by : (b : Bool) → All P (cond b ((46 ∷ []) ∷ []) [])
    by true = All-cons P (46 ∷ []) [] h (All-nil P)
    by false = All-nil P

longer : (part : List ℕ) → some part ≡ true → 0 < length part
longer part e = let full = eqb-false (length part) 0 (not-true (is_empty part) e) in omega arith

-- components have P, if each part that isn't empty and the closing `.` have it
pub components_have : (P : List ℕ → Type 0) (Q : ℕ → Type 0) (xs : List ℕ) →
    ((k d : ℕ) → k < length xs → is_slash (get_or xs k d) ≡ false → Q (get_or xs k d)) → Q 46 →
    ((part : List ℕ) → 0 < length part → All Q part → P part) → All P (components xs)
components_have P Q xs each dot from =
    let all = slice_split is_slash xs in
    let have = All-filter some (All Q) all (parts_have Q xs each) in
    let full = filter_passes some all in
    let closes = closing_has P xs (from (46 ∷ []) (omega arith) (All-cons Q 46 [] dot (All-nil Q))) in
    All-append P (filter some all) (closing_component xs)
    (λ k d l. from (get_or (filter some all) k d) (longer (get_or (filter some all) k d) (full k d l)) (have k d l)) closes

pub components_parts : (xs : List ℕ) → All IsPart (components xs)
components_parts xs = components_have IsPart (λ b. b ≢ 47) xs (λ k d l e. eqb-false (get_or xs k d) 47 e) (omega arith)
    (λ part full bytes. (full, bytes))

-- a byte in front makes no part longer by more than one
onto_longer : (x n : ℕ) (parts : List (List ℕ)) → All (λ part. length part ≤ n) parts →
    All (λ part. length part ≤ suc n) (onto_first x parts)
onto_longer x n [] h = All-cons (λ part. length part ≤ suc n) (x ∷ []) [] (omega arith) (All-nil (λ part. length part ≤ suc n))
onto_longer x n (part ∷ parts) h = All-cons (λ l. length l ≤ suc n) (x ∷ part) parts
    (omega (arith, All-head (λ l. length l ≤ n) part parts h))
    (λ k d l. omega (arith, All-tail (λ l. length l ≤ n) part parts h k d l))

-- a part is at most as long as the text
parts_short : (xs : List ℕ) → All (λ part. length part ≤ length xs) (slice_split is_slash xs)
parts_short [] = All-cons (λ part. length part ≤ 0) [] [] (omega arith) (All-nil (λ part. length part ≤ 0))
parts_short (x ∷ xs) = by (is_slash x) (parts_short xs)
  where
    by : (b : Bool) → All (λ part. length part ≤ length xs) (slice_split is_slash xs) →
        All (λ part. length part ≤ suc (length xs)) (cond b ([] ∷ slice_split is_slash xs) (onto_first x (slice_split is_slash xs)))
    by true rest = All-cons (λ part. length part ≤ suc (length xs)) [] (slice_split is_slash xs) (omega arith)
        (λ k d l. omega (arith, rest k d l))
    by false rest = onto_longer x (length xs) (slice_split is_slash xs) rest

-- a component is at most as long as the text
component_lengths : (xs : List ℕ) → All (λ component. length component ≤ length xs) (components xs)
component_lengths [] = All-nil (λ component. length component ≤ 0)
component_lengths (x ∷ xs) =
    let P : List ℕ → Type 0 = λ component. length component ≤ suc (length xs) in
    All-append P (filter some (slice_split is_slash (x ∷ xs))) (closing_component (x ∷ xs))
    (All-filter some P (slice_split is_slash (x ∷ xs)) (parts_short (x ∷ xs))) (closing_has P (x ∷ xs) (omega arith))

-- a text of at most 255 bytes has no longer component
pub short_text : (xs : List ℕ) → length xs ≤ 255 → has_long_component xs ≡ false
short_text xs h = list_any_none (λ component. nat_lt 255 (length component)) (components xs)
    (λ k d l. le-ltb 255 (length (get_or (components xs) k d)) (omega (arith, component_lengths xs k d l)))

onto_append : (x : ℕ) (parts others : List (List ℕ)) → 0 < length parts → onto_first x (parts ++ others) ≡ onto_first x parts ++ others
onto_append x [] others h = absurd (omega arith)
onto_append x (part ∷ parts) others h = refl

-- a slash between two texts leaves the parts of both as they are
pub split_joined : (xs ys : List ℕ) → slice_split is_slash (xs ++ 47 ∷ ys) ≡ slice_split is_slash xs ++ slice_split is_slash ys
split_joined [] ys = refl
split_joined (x ∷ xs) ys = by (is_slash x) (split_joined xs ys)
  where
    by : (b : Bool) → slice_split is_slash (xs ++ 47 ∷ ys) ≡ slice_split is_slash xs ++ slice_split is_slash ys →
        cond b ([] ∷ slice_split is_slash (xs ++ 47 ∷ ys)) (onto_first x (slice_split is_slash (xs ++ 47 ∷ ys)))
        ≡ cond b ([] ∷ slice_split is_slash xs) (onto_first x (slice_split is_slash xs)) ++ slice_split is_slash ys
    by true e = ap (λ ps. [] ∷ ps) e
    by false e = ap (onto_first x) e ∙ onto_append x (slice_split is_slash xs) (slice_split is_slash ys)
        (omega (arith, length-slice_split is_slash xs))

pub ends_joined : (xs ys : List ℕ) → 0 < length ys → ends_with_slash (xs ++ 47 ∷ ys) ≡ ends_with_slash ys
ends_joined xs ys h =
    let size = length-append xs (47 ∷ ys) in
    let at : length (xs ++ 47 ∷ ys) - 1 - length xs ≡ suc (length ys - 1) = omega arith in
    ap is_slash (get_or-append_right xs (47 ∷ ys) (length xs) (length (xs ++ 47 ∷ ys) - 1) 0 refl (omega arith)
    ∙ ap (λ k. get_or (47 ∷ ys) k 0) at)

abbrev closed : Bool → List (List ℕ)
closed ends = cond ends ((46 ∷ []) ∷ []) []

pub components_joined : (xs ys : List ℕ) → ends_with_slash xs ≡ false → 0 < length ys → components (xs ++ 47 ∷ ys)
    ≡ components xs ++ components ys
components_joined xs ys e h =
    let ps = slice_split is_slash xs in
    let qs = slice_split is_slash ys in
    let left : components xs ≡ filter some ps = ap (λ b. filter some ps ++ closed b) e ∙ append-nil (filter some ps) in
    ap (λ l. filter some l ++ closing_component (xs ++ 47 ∷ ys)) (split_joined xs ys)
    ∙ ap (λ b. filter some (ps ++ qs) ++ closed b) (ends_joined xs ys h)
    ∙ ap (λ l. l ++ closing_component ys) (filter-append some ps qs)
    ∙ append_assoc (filter some ps) (filter some qs) (closing_component ys)
    ∙ ap (λ l. l ++ components ys) (sym left)

-- the tests went on past this one
went_on : {X : Type 0} (b : Bool) (x : X) (o : Option X) → cond b (Some x) o ≡ None → (b ≡ false) × (o ≡ None)
went_on true x o h = absurd cc
went_on false x o h = (refl, h)

-- a text with no fault passed each test
pub record NoFault (path : List ℕ) : Type 0 where
  pub zero_free : list_any (λ b. b == 0) path ≡ false
  pub short : nat_lt 4095 (length path) ≡ false
  pub components_short : has_long_component path ≡ false

pub no_fault : (path : List ℕ) → path_fault path ≡ None → NoFault path
no_fault path h =
    let some_bytes = went_on (is_empty path) ENOENT _ h in
    let slash = went_on (not (begins_with_slash path)) EINVAL _ some_bytes.1 in
    let zero_free = went_on (list_any (λ b. b == 0) path) EINVAL _ slash.1 in
    let short = went_on (nat_lt 4095 (length path)) ENAMETOOLONG _ zero_free.1 in
    let components_short = went_on (has_long_component path) ENAMETOOLONG _ short.1 in
    record { zero_free = zero_free.0; short = short.0; components_short = components_short.0 }

pub none_passes : {X : Type 0} (p : X → Bool) (xs : List X) → list_any p xs ≡ false → (k : ℕ) (d : X) → k < length xs →
    p (get_or xs k d) ≡ false
none_passes p xs e k d l = false_from_ne_true (p (get_or xs k d)) (λ t. false≢true (sym e ∙ list_any_at p xs k d l t))

pub path_components : (path : List ℕ) → path_fault path ≡ None → All IsPathComponent (components path)
path_components path h k d l = record {
  part = components_parts path k d l;
  short = ltb-false 255 (length (get_or (components path) k d)) (none_passes (λ component. nat_lt 255 (length component)) (components path)
      (no_fault path h).components_short k d l);
  bytes = components_have (All (λ b. b ≢ 0)) (λ b. b ≢ 0) path
      (λ i c m e. eqb-false (get_or path i c) 0 (none_passes (λ b. b == 0) path (no_fault path h).zero_free i c m)) (omega arith)
      (λ part full bytes. bytes) k d l;
}

pub path_components_few : (path : List ℕ) → path_fault path ≡ None → length (components path) ≤ 4095
path_components_few path h = omega (arith, components_few path, ltb-false 4095 (length path) (no_fault path h).short)
