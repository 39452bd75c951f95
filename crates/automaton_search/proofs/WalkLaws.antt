-- What a walk says: each name leads to a visited state by a name that is no greater, or is no less than that of the next visit.
use Rattle.std.proofs.Common.{◌≡◌, ◌⊎◌, inl, inr, ⊎_elim, ℕ, ◌<◌, ◌≤◌, List, [], ◌∷◌, ◌++◌, length, Some, slice_get}
use Rattle.std.proofs.Common.{slice_index_or, append-nil, append_assoc, refl, sym, ap, ◌∙◌, subst, arith}
use Rattle.std.specs.List.{All}
use Rattle.std.proofs.lemmas.Bool.{cases_lt}
use Rattle.std.proofs.lemmas.List.Elements.{All-head, All-tail}
use Rattle.std.proofs.lemmas.Option.{same_Some, slice_get_within, slice_get-get_or}
use Rattle.names.specs.Paths.{IsName}
use Rattle.automaton_search.specs.Order.{IsAtMost}
use Rattle.automaton_search.specs.declared.walk.Trail.{Trail}
use Rattle.automaton_search.specs.inner.Walks.{IsAt, IsMetBy, IsNameByte, IsWalk, IsWalkAt, led}
use Rattle.automaton_search.proofs.NameLaws.{name_parts}
use Rattle.automaton_search.specs.laws.Orders.{less_than_more, at_most_through, at_most_with}

pub led_one_more : {K : Type 0} → (next : K → ℕ → K) (s : K) (bytes : List ℕ) (b : ℕ) →
    led next s (bytes ++ b ∷ []) ≡ next (led next s bytes) b
led_one_more {K} next s [] b = refl
led_one_more {K} next s (c ∷ bytes) b = led_one_more next (next s c) bytes b

module _ {K : Type 0} (next : K → ℕ → K) (start : K) (states : List K) (trails : List Trail) (names : List (List ℕ)) (i : ℕ)
    (is : IsWalk next start states trails names i 0) where
  -- the name of the next visit is no greater
  abbrev IsLater : List ℕ → Type 0
  IsLater name = (next : List ℕ) × (slice_get names i ≡ Some next) × IsAtMost next name

  abbrev IsMet : List ℕ → Type 0
  IsMet name = IsMetBy states names (led next start name) name

  later_at : (k : ℕ) (name : List ℕ) → slice_get names k ≡ Some name → i ≤ k → IsLater name
  later_at k name at le =
      let within : k < length names = slice_get_within names k name at in
      let here : slice_get names i ≡ Some (slice_index_or names i []) = slice_get-get_or names i [] (omega (arith, within, le)) in (
        slice_index_or names i [],
        here,
        ⊎_elim
            (λ lt. inr (is.ascending i k (slice_index_or names i []) name lt here at))
            (λ ge. let e : i ≡ k = omega (arith, ge, le) in
            inl (same_Some (slice_index_or names i []) name (sym here ∙ ap (slice_get names) e ∙ at)))
            (cases_lt i k),
      )

  step : (u : List ℕ) (c : ℕ) → IsNameByte c → IsMet u ⊎ IsLater u → IsMet (u ++ c ∷ []) ⊎ IsLater (u ++ c ∷ [])
  step u c byte (inr h) = inr (h.0, h.1, at_most_through h.0 u (u ++ c ∷ []) h.2 (inr (less_than_more u c)))
  step u c byte (inl (k, (w, at, least))) = ⊎_elim
      (λ lt. let h = is.closed k c (led next start u) w at byte (inl lt) in
      inl (
        h.0,
        (
          h.1.0,
          (h.1.1.0 ∙ ap Some (sym (led_one_more next start u c)), h.1.1.1),
          at_most_through h.1.0 (w ++ c ∷ []) (u ++ c ∷ []) h.1.2 (at_most_with w u c least),
        ),
      ))
      (λ le. let h = later_at k w at.1 le in
      inr (h.0, h.1, at_most_through h.0 w (u ++ c ∷ []) h.2 (at_most_through w u (u ++ c ∷ []) least (inr (less_than_more u c)))))
      (cases_lt k i)

  onward : (u rest : List ℕ) → All IsNameByte rest → IsMet u ⊎ IsLater u → IsMet (u ++ rest) ⊎ IsLater (u ++ rest)
  onward u [] bytes h = subst (λ z. IsMet z ⊎ IsLater z) (sym (append-nil u)) h
  onward u (c ∷ rest) bytes h =
      subst (λ z. IsMet z ⊎ IsLater z) (append_assoc u (c ∷ []) rest)
      (onward (u ++ c ∷ []) rest (All-tail IsNameByte c rest bytes) (step u c (All-head IsNameByte c rest bytes) h))

  -- the first visit is of what a slash leads to
  module _ (first : IsAt states names 0 (next start 47) (47 ∷ [])) where
    met_or_later : (name : List ℕ) → IsName name → IsMet name ⊎ IsLater name
    met_or_later name is_name =
        let parts = name_parts name is_name in
        subst (λ z. IsMet z ⊎ IsLater z) (sym parts.1)
        (onward (47 ∷ []) parts.0 parts.2 (inl (0, ((47 ∷ []), (first.0, first.1), inl refl))))

    -- all visits have been gone over
    pub all_met : length states ≤ i → (name : List ℕ) → IsName name → IsMet name
    all_met all name is_name = ⊎_elim
        (λ h. h)
        (λ h. let lt = slice_get_within names i h.0 h.1 in absurd (omega (arith, lt, all, is.named.each, is.each)))
        (met_or_later name is_name)

-- A walk that is past the last visit is at its end. (Nothing is said of a visit that isn't there.)
pub at_end : {K : Type 0} (next : K → ℕ → K) (start : K) (states : List K) (trails : List Trail) (i : ℕ) → length states ≤ i →
    IsWalkAt next start states trails i 0 → IsWalkAt next start states trails (length states) 0
at_end {K} next start states trails i all (names, is) = (
  names,
  record {
    named = is.named;
    slash = is.slash;
    each = is.each;
    leads = is.leads;
    ascending = is.ascending;
    below = λ j d u w one here later.
        let lt = slice_get_within names (length states) w here in
        absurd (omega (arith, lt, is.named.each, is.each));
    closed = λ j c s w at byte way.
        let lt = slice_get_within states j s at.0 in is.closed j c s w at byte (inl (omega (arith, lt, all)));
  },
)
