-- A number that is looked for in an ascending list, and added at its place.
use Rattle.std.proofs.Common.{◌≡◌, ◌⊎◌, ◌↔◌, inl, inr, ⊎_elim, ℕ, ◌+◌, ◌-◌, ◌<◌, ◌≤◌, List, Result, Ok, Err, length, get_or, Contains}
use Rattle.std.proofs.Common.{IsTrue, is_ok, nat_cmp, refl, sym, ap, ◌∙◌, arith}
use Rattle.std.specs.List.{insert}
use Rattle.std.specs.List.Sorted.{IsBinarySearchResult}
use Rattle.std.proofs.lemmas.Bool.{cases_eq, cases_lt}
use Rattle.std.proofs.lemmas.List.{get_or_default}
use Rattle.std.proofs.lemmas.List.Edits.{get_or-insert_above, get_or-insert_at, get_or-insert_below, length-insert}
use Rattle.std.proofs.lemmas.List.Sorted.{searched}
use Rattle.rule_influence.specs.StandIns.{IsAscending}
use Rattle.rule_influence.specs.inner.Lists.{AreAdded}

pub contains_at : (list : List ℕ) (k n : ℕ) → k < length list → get_or list k 0 ≡ n → Contains list n
contains_at list k n lt e = (k, lt, get_or_default list k n 0 lt ∙ e)

pub place_of : (list : List ℕ) (n : ℕ) → Contains list n → (k : ℕ) × (k < length list) × (get_or list k 0 ≡ n)
place_of list n h = (h.0, h.1, get_or_default list h.0 0 n h.1 ∙ h.2)

rises : (list : List ℕ) → IsAscending list → (i j : ℕ) → i ≤ j → j < length list → get_or list i 0 ≤ get_or list j 0
rises list up i j le lt = ⊎_elim
    (λ less. omega (arith, up i j less lt))
    (λ ge.
    let e : i ≡ j = omega (arith, le, ge) in
    omega (arith, ap (λ z. get_or list z 0) e))
    (cases_lt i j)

-- the search finds the number exactly if it is in the list
pub found_there : (list : List ℕ) (number : ℕ) (r : Result ℕ ℕ) → IsBinarySearchResult (λ y. nat_cmp y number) list r →
    IsAscending list → IsTrue (is_ok r) ↔ Contains list number
found_there list number (Ok i) is up =
    let at = searched list number (Ok i) is (rises list up) in
    (λ h. contains_at list i number at.0 at.1, λ h. refl)
found_there list number (Err place) is up =
    let at = searched list number (Err place) is (rises list up) in (
      λ h. cc h,
      λ h.
          let there = place_of list number h in
          absurd (⊎_elim
          (λ lt. omega (arith, at.1 there.0 lt, there.2))
          (λ ge. omega (arith, at.2 there.0 ge there.1, there.2))
          (cases_lt there.0 place)),
    )

module _ (list : List ℕ) (number place : ℕ) (is : IsBinarySearchResult (λ y. nat_cmp y number) list (Err place))
    (up : IsAscending list) where
  abbrev new : List ℕ
  new = insert list place number

  le : place ≤ length list
  le = (searched list number (Err place) is (rises list up)).0

  below : (k : ℕ) → k < place → get_or list k 0 < number
  below = (searched list number (Err place) is (rises list up)).1

  above : (k : ℕ) → place ≤ k → k < length list → number < get_or list k 0
  above = (searched list number (Err place) is (rises list up)).2

  long : length new ≡ length list + 1
  long = length-insert list place number le

  at_below : (k : ℕ) → k < place → get_or new k 0 ≡ get_or list k 0
  at_below k lt = get_or-insert_below list place number 0 k lt le

  at_place : (k : ℕ) → k ≡ place → get_or new k 0 ≡ number
  at_place k e = ap (λ z. get_or new z 0) e ∙ get_or-insert_at list place number 0 le

  at_above : (k : ℕ) → place < k → get_or new k 0 ≡ get_or list (k - 1) 0
  at_above k lt =
      let e : k ≡ k - 1 + 1 = omega (arith, lt) in
      ap (λ z. get_or new z 0) e ∙ get_or-insert_above list place number 0 (k - 1) (omega (arith, lt)) le

  from_below : (i j : ℕ) → i < place → i < j → j < length new → get_or new i 0 < get_or new j 0
  from_below i j at lt within = ⊎_elim
      (λ less. omega (arith, at_below i at, at_below j less, up i j lt (omega (arith, less, le))))
      (λ ge. ⊎_elim
      (λ e. omega (arith, at_below i at, at_place j e, below i at))
      (λ ne.
      let more : place < j = omega (arith, ge, ne) in
      omega (
        arith,
        at_below i at,
        at_above j more,
        below i at,
        above (j - 1) (omega (arith, more))
            (omega (arith, within, long, more)),
      ))
      (cases_eq j place))
      (cases_lt j place)

  from_place : (i j : ℕ) → place ≤ i → i < j → j < length new → get_or new i 0 < get_or new j 0
  from_place i j at lt within =
      let more : place < j = omega (arith, at, lt) in
      let inside : j - 1 < length list = omega (arith, within, long, more) in
      ⊎_elim
      (λ e. omega (arith, at_place i e, at_above j more, above (j - 1) (omega (arith, more)) inside))
      (λ ne.
      let past : place < i = omega (arith, at, ne) in
      omega (arith, at_above i past, at_above j more, up (i - 1) (j - 1) (omega (arith, lt, past)) inside))
      (cases_eq i place)

  old_there : (n : ℕ) → Contains list n → Contains new n
  old_there n h =
      let there = place_of list n h in
      ⊎_elim
      (λ lt. contains_at new there.0 n (omega (arith, there.1, long)) (at_below there.0 lt ∙ there.2))
      (λ ge. contains_at new (there.0 + 1) n (omega (arith, there.1, long))
      (get_or-insert_above list place number 0 there.0 ge le ∙ there.2))
      (cases_lt there.0 place)

  new_old : (n : ℕ) → Contains new n → Contains list n ⊎ (n ≡ number)
  new_old n h =
      let there = place_of new n h in
      ⊎_elim
      (λ lt. inl (contains_at list there.0 n (omega (arith, lt, le)) (sym (at_below there.0 lt) ∙ there.2)))
      (λ ge. ⊎_elim
      (λ e. inr (sym there.2 ∙ at_place there.0 e))
      (λ ne.
      let more : place < there.0 = omega (arith, ge, ne) in
      inl (contains_at list (there.0 - 1) n (omega (arith, there.1, long, more)) (sym (at_above there.0 more) ∙ there.2)))
      (cases_eq there.0 place))
      (cases_lt there.0 place)

  pub number_added : AreAdded (λ n. n ≡ number) list new
  number_added = record {
    ascending = λ i j lt within. ⊎_elim
        (λ at. from_below i j at lt within)
        (λ at. from_place i j at lt within)
        (cases_lt i place);
    members = λ n. (
      new_old n,
      ⊎_elim (old_there n) (λ e. contains_at new place n (omega (arith, le, long)) (at_place place refl ∙ sym e)),
    );
  }
