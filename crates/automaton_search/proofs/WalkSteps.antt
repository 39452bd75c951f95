-- One step of the walk: the first visit, a range of bytes more, and the next visit.
use Rattle.std.proofs.Common.{◌≡◌, inl, inr, ⊎_elim, ℕ, ◌+◌, ◌<◌, ◌≤◌, List, [], ◌∷◌, ◌++◌, length, Some, slice_get, slice_index_or}
use Rattle.std.proofs.Common.{refl, sym, ap, ◌∙◌, subst, arith}
use Rattle.std.proofs.lemmas.Bool.{cases_lt}
use Rattle.std.proofs.lemmas.List.{length-append}
use Rattle.std.proofs.lemmas.Option.{same_Some, slice_get_within, slice_get-get_or}
use Rattle.names.specs.Paths.{IsName}
use Rattle.automaton_search.specs.Order.{IsLess, place_of}
use Rattle.automaton_search.specs.declared.walk.Trail.{Trail}
use Rattle.automaton_search.specs.inner.Trails.{AreNames}
use Rattle.automaton_search.specs.inner.Walks.{AreKept, IsAt, IsMetBy, IsStretch, IsWalk, IsWalkAt, IsVisited, led}
use Rattle.automaton_search.specs.laws.Lists.{get_stays, get_last, get_either}
use Rattle.automaton_search.proofs.NameLaws.{name_more, slash_is_name}
use Rattle.automaton_search.specs.laws.Orders.{less_through, less_with, less_by_last, at_most_by_last}
use Rattle.automaton_search.specs.laws.Places.{all_bytes, between, no_zero, places_ascend}
use Rattle.automaton_search.proofs.WalkLaws.{led_one_more}

abbrev slash : List ℕ
slash = 47 ∷ []

only_name : (u : List ℕ) (j : ℕ) → slice_get (slash ∷ []) j ≡ Some u → (j ≡ 0) × (slash ≡ u)
only_name u j here =
    let e : j ≡ 0 = omega (arith, slice_get_within (slash ∷ []) j u here) in
    (e, same_Some slash u (ap (slice_get (slash ∷ [])) (sym e) ∙ here))

module _ {K : Type 0} where
  met_stays : (states more : List K) (names after : List (List ℕ)) (s : K) (u : List ℕ) → IsMetBy states names s u →
      IsMetBy (states ++ more) (names ++ after) s u
  met_stays states more names after s u h =
      (h.0, (h.1.0, (get_stays states more h.0 s h.1.1.0, get_stays names after h.0 h.1.0 h.1.1.1), h.1.2))

  -- ---- a range of bytes more

  module _ (next : K → ℕ → K) (start : K) (states : List K) (trails : List Trail) (names : List (List ℕ))
      (i b last : ℕ) (t s : K) (w : List ℕ)
      (is : IsWalk next start states trails names i (place_of b)) (at : IsAt states names i s w) (some : 0 < b)
      (stretch : IsStretch b last) (targets : (c : ℕ) → b ≤ c → c ≤ last → next s c ≡ t) where
    abbrev to : ℕ
    to = place_of last + 1

    up : place_of b ≤ place_of last
    up = places_ascend b last stretch

    below_later : (j c : ℕ) (u x : List ℕ) → slice_get names j ≡ Some u → slice_get names i ≡ Some x → to ≤ place_of c →
        IsLess u (x ++ c ∷ [])
    below_later j c u x one here later = is.below j c u x one here (omega (arith, up, later))

    -- a byte of a place that is passed now leads to the target
    to_target : (c : ℕ) → place_of b ≤ place_of c → place_of c < to → next s c ≡ t
    to_target c from within = let h = between b last c stretch from (omega (arith, within)) in targets c h.0 h.1

    names_long : length names ≡ length states
    names_long = is.named.each ∙ sym is.each

    -- the target was visited
    module _ (k : ℕ) (was : slice_get states k ≡ Some t) where
      met_before : (c : ℕ) → place_of b ≤ place_of c → place_of c < to → IsMetBy states names (next s c) (w ++ c ∷ [])
      met_before c from within =
          let there : k < length names = omega (arith, slice_get_within states k t was, names_long) in
          let u : List ℕ = slice_index_or names k [] in
          let there_name : slice_get names k ≡ Some u = slice_get-get_or names k [] there in (
            k,
            (
              u,
              (was ∙ ap Some (sym (to_target c from within)), there_name),
              inr (is.below k c u w there_name at.1 from),
            ),
          )

      pub was_visited : IsWalk next start states trails names i to
      was_visited = record {
        named = is.named;
        slash = is.slash;
        each = is.each;
        leads = is.leads;
        ascending = is.ascending;
        below = below_later;
        closed = λ j c x u here byte way. ⊎_elim
            (λ lt. is.closed j c x u here byte (inl lt))
            (λ h. ⊎_elim
            (λ lt. is.closed j c x u here byte (inr (h.0, lt)))
            (λ from.
            let is_s : s ≡ x = same_Some s x (sym at.0 ∙ ap (slice_get states) (sym h.0) ∙ here.0) in
            let is_w : w ≡ u = same_Some w u (sym at.1 ∙ ap (slice_get names) (sym h.0) ∙ here.1) in
            subst (λ (z : K). IsMetBy states names (next z c) (u ++ c ∷ [])) is_s
            (subst (λ (z : List ℕ). IsMetBy states names (next s c) (z ++ c ∷ [])) is_w
            (met_before c from h.1)))
            (cases_lt (place_of c) (place_of b))) way;
      }

    -- the target is put after the others
    abbrev n : Trail
    n = record { parent = i; byte = b }

    abbrev name : List ℕ
    name = w ++ b ∷ []

    abbrev states' : List K
    states' = states ++ t ∷ []

    abbrev trails' : List Trail
    trails' = trails ++ n ∷ []

    abbrev all' : List (List ℕ)
    all' = names ++ name ∷ []

    i_there : i < length states
    i_there = slice_get_within states i s at.0

    state_at : slice_get states' (length states) ≡ Some t
    state_at = get_last states t

    name_at : slice_get all' (length states) ≡ Some name
    name_at = ap (slice_get all') (sym names_long) ∙ get_last names name

    name_within : (j : ℕ) (u : List ℕ) → slice_get names j ≡ Some u → j < length states
    name_within j u here = omega (arith, slice_get_within names j u here, names_long)

    all_within : (j : ℕ) (u : List ℕ) → slice_get all' j ≡ Some u → j < length states + 1
    all_within j u here = omega (arith, slice_get_within all' j u here, length-append names (name ∷ []), names_long)

    abbrev IsLater : ℕ → Trail → Type 0
    IsLater j x = (x.parent < j) × ((u : List ℕ) × (slice_get all' x.parent ≡ Some u) × (slice_get all' j ≡ Some (u ++ x.byte ∷ [])))

    named' : AreNames trails' all'
    named' = record {
      each = length-append names (name ∷ []) ∙ ap (λ z. z + 1) is.named.each ∙ sym (length-append trails (n ∷ []));
      first = get_stays names (name ∷ []) 0 slash is.named.first;
      later = λ j x lt here. ⊎_elim
          (λ old. let h = is.named.later j x lt old in
          (h.0, (h.1.0, get_stays names (name ∷ []) x.parent h.1.0 h.1.1, get_stays names (name ∷ []) j (h.1.0 ++ x.byte ∷ []) h.1.2)))
          (λ new. let e : j ≡ length states = new.0 ∙ sym is.each in
          subst (IsLater j) new.1
          (omega (arith, i_there, e), (w, get_stays names (name ∷ []) i w at.1, ap (slice_get all') e ∙ name_at)))
          (get_either trails n x j here);
    }

    leads' : (j : ℕ) (x : K) (u : List ℕ) → IsAt states' all' j x u → IsName u × (led next start u ≡ x)
    leads' j x u here = ⊎_elim
        (λ old. ⊎_elim
        (λ was. is.leads j x u (old, was))
        (λ new. absurd (omega (arith, slice_get_within states j x old, new.0, names_long)))
        (get_either names name u j here.1))
        (λ new. ⊎_elim
        (λ was. absurd (omega (arith, name_within j u was, new.0)))
        (λ h. subst (λ (z : K). IsName u × (led next start u ≡ z)) new.1
        (subst (λ (z : List ℕ). IsName z × (led next start z ≡ t)) h.1 (
          name_more w b (is.leads i s w at).0 (some, omega (arith, stretch)),
          led_one_more next start w b ∙ ap (λ z. next z b) ((is.leads i s w at).1) ∙ targets b (omega arith) stretch.0,
        )))
        (get_either names name u j here.1))
        (get_either states t x j here.0)

    pub is_new : IsWalk next start states' trails' all' i to
    is_new = record {
      named = named';
      slash = λ x here. ⊎_elim
          (λ old. is.slash x old)
          (λ new. absurd (omega (arith, new.0, i_there, is.each)))
          (get_either trails n x 0 here);
      each = length-append states (t ∷ []) ∙ ap (λ z. z + 1) is.each ∙ sym (length-append trails (n ∷ []));
      leads = leads';
      ascending = λ j k u x lt one other. ⊎_elim
          (λ old. ⊎_elim
          (λ was. is.ascending j k u x lt old was)
          (λ new. subst (IsLess u) new.1 (is.below j b u w old at.1 (omega arith)))
          (get_either names name x k other))
          (λ new. absurd (omega (arith, lt, new.0, names_long, all_within k x other)))
          (get_either names name u j one);
      below = λ j c u x one here later.
          let is_w : w ≡ x = same_Some w x (sym (get_stays names (name ∷ []) i w at.1) ∙ here) in
          subst (λ (z : List ℕ). IsLess u (z ++ c ∷ [])) is_w
          (⊎_elim
          (λ old. below_later j c u w old at.1 later)
          (λ new. subst (λ (z : List ℕ). IsLess z (w ++ c ∷ [])) new.1 (less_by_last w b c (omega (arith, up, later))))
          (get_either names name u j one));
      closed = λ j c x u here byte way.
          let low : j ≤ i = ⊎_elim (λ lt. omega (arith, lt)) (λ h. omega (arith, h.0)) way in
          ⊎_elim
          (λ old. ⊎_elim
          (λ was. ⊎_elim
          (λ lt. met_stays states (t ∷ []) names (name ∷ []) (next x c) (u ++ c ∷ []) (is.closed j c x u (old, was) byte (inl lt)))
          (λ h. ⊎_elim
          (λ lt. met_stays states (t ∷ []) names (name ∷ []) (next x c) (u ++ c ∷ []) (is.closed j c x u (old, was) byte (inr (h.0, lt))))
          (λ from.
          let is_s : s ≡ x = same_Some s x (sym at.0 ∙ ap (slice_get states) (sym h.0) ∙ old) in
          let is_w : w ≡ u = same_Some w u (sym at.1 ∙ ap (slice_get names) (sym h.0) ∙ was) in
          subst (λ (z : K). IsMetBy states' all' (next z c) (u ++ c ∷ [])) is_s
          (subst (λ (z : List ℕ). IsMetBy states' all' (next s c) (z ++ c ∷ [])) is_w
          (length states, (name, (state_at ∙ ap Some (sym (to_target c from h.1)), name_at), at_most_by_last w b c from))))
          (cases_lt (place_of c) (place_of b))) way)
          (λ new. absurd (omega (arith, new.0, names_long, low, i_there)))
          (get_either names name u j here.1))
          (λ new. absurd (omega (arith, new.0, low, i_there)))
          (get_either states t x j here.0);
    }

  -- either way
  pub one_range_more : (next : K → ℕ → K) (start : K) (states : List K) (trails : List Trail) (i b last : ℕ) (t s : K)
      (new : List K) (more : List Trail) →
      IsWalkAt next start states trails i (place_of b) → slice_get states i ≡ Some s → 0 < b → IsStretch b last →
      ((c : ℕ) → b ≤ c → c ≤ last → next s c ≡ t) →
      IsVisited states trails new more t (record { parent = i; byte = b }) → IsWalkAt next start new more i (place_of last + 1)
  one_range_more next start states trails i b last t s new more (names, is) at some stretch targets way =
      let w : List ℕ = slice_index_or names i [] in
      let here : IsAt states names i s w =
      (at, slice_get-get_or names i [] (omega (arith, slice_get_within states i s at, is.named.each, is.each))) in
      ⊎_elim
      (λ old. subst (λ (z : List K). IsWalkAt next start z more i (place_of last + 1)) (sym old.1)
      (subst (λ (z : List Trail). IsWalkAt next start states z i (place_of last + 1)) (sym old.2)
      (names, was_visited next start states trails names i b last t s w is here some stretch targets old.0.0 old.0.1)))
      (λ one. subst (λ (z : List K). IsWalkAt next start z more i (place_of last + 1)) (sym one.0)
      (subst (λ (z : List Trail). IsWalkAt next start (states ++ t ∷ []) z i (place_of last + 1)) (sym one.1)
      (names ++ (w ++ b ∷ []) ∷ [], is_new next start states trails names i b last t s w is here some stretch targets)))
      way

  pub visited_kept : (states new : List K) (trails more : List Trail) (s : K) (v : Trail) →
      IsVisited states trails new more s v → AreKept states new
  visited_kept states new trails more s v way j x at = ⊎_elim
      (λ h. ap (λ z. slice_get z j) h.1 ∙ at)
      (λ h. ap (λ z. slice_get z j) h.0 ∙ get_stays states (s ∷ []) j x at)
      way

  -- ---- the second stretch, and the next visit

  pub below_a : (next : K → ℕ → K) (start : K) (states : List K) (trails : List Trail) (i : ℕ) →
      IsWalkAt next start states trails i (place_of 255 + 1) → IsWalkAt next start states trails i (place_of 1)
  below_a next start states trails i (names, is) = (
    names,
    record {
      named = is.named;
      slash = is.slash;
      each = is.each;
      leads = is.leads;
      ascending = is.ascending;
      below = λ j c u x one here later. is.below j c u x one here (omega (arith, later));
      closed = λ j c x u here byte way. is.closed j c x u here byte
          (⊎_elim (λ lt. inl lt) (λ h. inr (h.0, no_zero c byte.0 h.1)) way);
    },
  )

  pub next_visit : (next : K → ℕ → K) (start : K) (states : List K) (trails : List Trail) (i : ℕ) →
      IsWalkAt next start states trails i (place_of 96 + 1) → IsWalkAt next start states trails (i + 1) 0
  next_visit next start states trails i (names, is) = (
    names,
    record {
      named = is.named;
      slash = is.slash;
      each = is.each;
      leads = is.leads;
      ascending = is.ascending;
      below = λ j c u x one here later.
          let w : List ℕ = slice_index_or names i [] in
          let at : slice_get names i ≡ Some w = slice_get-get_or names i [] (omega (arith, slice_get_within names (i + 1) x here)) in
          less_through u (w ++ 256 ∷ []) (x ++ c ∷ []) (is.below j 256 u w one at (omega arith))
          (less_with w x 256 c (is.ascending i (i + 1) w x (omega arith) at here));
      closed = λ j c x u here byte way. ⊎_elim
          (λ lt. ⊎_elim
          (λ less. is.closed j c x u here byte (inl less))
          (λ ge. is.closed j c x u here byte (inr (omega (arith, lt, ge), all_bytes c byte.1)))
          (cases_lt j i))
          (λ h. absurd (omega (arith, h.1))) way;
    },
  )

  -- ---- the first visit

  only : (x y : K) (j : ℕ) → slice_get (x ∷ []) j ≡ Some y → (j ≡ 0) × (x ≡ y)
  only x y j here =
      let e : j ≡ 0 = omega (arith, slice_get_within (x ∷ []) j y here) in
      (e, same_Some x y (ap (slice_get (x ∷ [])) (sym e) ∙ here))

  pub first_visit : (next : K → ℕ → K) (start : K) (v : Trail) → v.byte ≡ 47 →
      IsWalkAt next start (next start 47 ∷ []) (v ∷ []) 0 0
  first_visit next start v slashed = (
    slash ∷ [],
    record {
      named = record {
        each = refl;
        first = refl;
        later = λ j x some here. absurd (omega (arith, some, slice_get_within (v ∷ []) j x here));
      };
      slash = λ x here. ap (λ (z : Trail). z.byte) (sym (same_Some v x here)) ∙ slashed;
      each = refl;
      leads = λ j x u here.
          subst (λ (z : K). IsName u × (led next start u ≡ z)) (only (next start 47) x j here.0).1
          (subst (λ (z : List ℕ). IsName z × (led next start z ≡ next start 47)) (only_name u j here.1).1 (slash_is_name, refl));
      ascending = λ j k u x less one other. absurd (omega (arith, less, slice_get_within (slash ∷ []) k x other));
      below = λ j c u x one here later.
          subst (λ (z : List ℕ). IsLess u (z ++ c ∷ [])) (only_name x 0 here).1
          (subst (λ (z : List ℕ). IsLess z (slash ++ c ∷ [])) (only_name u j one).1 (inl (omega arith)));
      closed = λ j c x u here byte way. absurd (⊎_elim (λ less. omega (arith, less)) (λ h. omega (arith, h.1)) way);
    },
  )
