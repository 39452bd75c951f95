-- What is found after a look or a keep, and which entries there are.
use Rattle.std.proofs.Common.{◌≡◌, ◌≢◌, ℕ, zero, suc, ◌-◌, Bool, true, false, ◌⊎◌, cond}
use Rattle.std.proofs.Common.{List, [], ◌∷◌, take, Contains, slice_get, Option}
use Rattle.std.proofs.Common.{Some, None, refl, sym, ap, ◌∙◌, subst, inl, inr}
use Rattle.std.specs.Option.{option_map, option_map_or}
use Rattle.std.specs.Map.{lookup, lookup_entry, remove_entry}
use Rattle.lru.specs.LruCache.{lru_cache, promoted}
use Rattle.lru.proofs.CallerLemmas.{Contains-lookup, Contains-lookup_entry, Contains-promoted, Contains-put_entries, lookup-put_entries}
use Rattle.lru.proofs.Pairs.{lookup-lookup_entry}
use Rattle.verdict_cache.specs.Questions.{Asked, Kept, Verdicts, verdicts, asks, found_under, with_first, with_kept}
use Rattle.verdict_cache.specs.inner.SameQuestions.{asks_Decides, asks_equiv, equal_questions}

pub by_answer : {P : Type 0} (b : Bool) → (b ≡ true → P) → (b ≡ false → P) → P
by_answer true p q = p refl
by_answer false p q = q refl

pub cond-true : {A : Type 0} {b : Bool} (x y : A) → b ≡ true → cond b x y ≡ x
cond-true x y e = ap (λ c. cond c x y) e

pub cond-false : {A : Type 0} {b : Bool} (x y : A) → b ≡ false → cond b x y ≡ y
cond-false x y e = ap (λ c. cond c x y) e

module _ {K V : Type 0} (test : K → Bool) where
  -- a longer list has the same in front
  found_in_front : (n : ℕ) (es : List (K × V)) (v : V) → lookup test (take n es) ≡ Some v → lookup test es ≡ Some v
  found_in_front zero es v h = absurd (cc h)
  found_in_front (suc n) [] v h = h
  found_in_front (suc n) (e ∷ es) v h = by_answer (test e.0)
      (λ y. cond-true (Some e.1) _ y ∙ sym (cond-true (Some e.1) _ y) ∙ h)
      (λ n'. cond-false (Some e.1) _ n' ∙ found_in_front n es v (sym (cond-false (Some e.1) _ n') ∙ h))

module _ {K V : Type 0} (test other : K → Bool) (differ : (k : K) → test k ≡ true → other k ≡ false) where
  found_without : (es : List (K × V)) → lookup other (remove_entry test es) ≡ lookup other es
  found_without [] = refl
  found_without (e ∷ es) = by_answer (test e.0)
      (λ y. ap (lookup other) (cond-true es _ y) ∙ sym (cond-false _ _ (differ e.0 y)))
      (λ n. ap (lookup other) (cond-false es _ n) ∙ ap (cond (other e.0) (Some e.1)) (found_without es))

abbrev pub Entries : Type 0
Entries = List (Asked × Kept)

apart : (q other : Asked) → other ≢ q → (p : Asked) → asks q p ≡ true → asks other p ≡ false
apart q other differ p h = by_answer (asks other p)
    (λ y. absurd (differ (equal_questions other p y ∙ sym (equal_questions q p h))))
    (λ n. n)

module _ (q other : Asked) where
  -- the entry of q in front, the rest without it
  moved : (es : Entries) (e : Asked × Kept) → lookup_entry (asks q) es ≡ Some e →
      lookup (asks other) (e ∷ remove_entry (asks q) es) ≡ lookup (asks other) es
  moved es e h =
      let here : asks q e.0 ≡ true = (Contains-lookup_entry (asks q) es e h).1 in
      by_answer (asks other q)
      (λ y. let same : other ≡ q = equal_questions other q y in
      let hit : asks other e.0 ≡ true = ap (λ r. asks r e.0) same ∙ here in
      cond-true (Some e.1) _ hit
      ∙ sym (ap (λ r. lookup (asks r) es) same ∙ sym (lookup-lookup_entry (asks q) es) ∙ ap (option_map (λ e. e.1)) h))
      (λ n. let differ : other ≢ q = λ s. absurd (cc (sym n ∙ (asks_Decides other q).1 s)) in
      cond-false (Some e.1) _ (apart q other differ e.0 here) ∙ found_without (asks q) (asks other) (apart q other differ) es)

  after_look : (es : Entries) (o : Option (Asked × Kept)) → lookup_entry (asks q) es ≡ o →
      lookup (asks other) (option_map_or (λ e. e ∷ remove_entry (asks q) es) o es) ≡ lookup (asks other) es
  after_look es None h = refl
  after_look es (Some e) h = moved es e h

  pub look_changes_no_answer : (c : Verdicts) → found_under other (with_first q c) ≡ found_under other c
  look_changes_no_answer c = after_look c.entries (lookup_entry (asks q) c.entries) refl

  module _ (differ : other ≢ q) (k kept : Kept) where
    after_keep : (es : Entries) (n : ℕ) (o : Option (Asked × Kept)) → lookup_entry (asks q) es ≡ o →
        lookup (asks other) (option_map_or (λ e. (e.0, k) ∷ remove_entry (asks q) es) o ((q, k) ∷ take n es)) ≡ Some kept →
        lookup (asks other) es ≡ Some kept
    after_keep es n None h found =
        let miss : asks other q ≡ false = apart q other differ q ((asks_Decides q q).1 refl) in
        found_in_front (asks other) n es kept (sym (cond-false (Some k) _ miss) ∙ found)
    after_keep es n (Some e) h found =
        let miss : asks other e.0 ≡ false = apart q other differ e.0 (Contains-lookup_entry (asks q) es e h).1 in
        sym (found_without (asks q) (asks other) (apart q other differ) es) ∙ sym (cond-false (Some k) _ miss) ∙ found

    pub others_were_found : (c : Verdicts) → found_under other (with_kept q k c) ≡ Some kept → found_under other c ≡ Some kept
    others_were_found c = after_keep c.entries (c.capacity - 1) (lookup_entry (asks q) c.entries) refl

missed : (q : Asked) (es : Entries) (o : Option (Asked × Kept)) → lookup_entry (asks q) es ≡ o →
    option_map (λ e. e.1) o ≡ None →
    option_map_or (λ e. e ∷ remove_entry (asks q) es) o es ≡ es
missed q es None h none = refl
missed q es (Some e) h none = absurd (cc none)

pub misses_change_nothing : (q : Asked) (c : Verdicts) → found_under q c ≡ None → with_first q c ≡ c
misses_change_nothing q c none =
    let same = missed q c.entries (lookup_entry (asks q) c.entries) refl (lookup-lookup_entry (asks q) c.entries ∙ none) in
    λ i. verdicts (same i) c.capacity

in_front : (q : Asked) (es : Entries) (p : Asked) (k : Kept) → Some (p, k) ≡ slice_get es 0 → asks q p ≡ true →
    (es ≡ promoted (asks q) es) × (lookup (asks q) es ≡ Some k)
in_front q [] p k h t = absurd (cc h)
in_front q (e ∷ es) p k h t =
    let same : e ≡ (p, k) = sym (cc h) in
    let passes : asks q e.0 ≡ true = ap (λ f. asks q f.0) same ∙ t in
    let rest : remove_entry (asks q) (e ∷ es) ≡ es = cond-true es _ passes in
    let moved = ap (λ o. option_map_or (λ f. f ∷ remove_entry (asks q) (e ∷ es)) o (e ∷ es)) (cond-true (Some e) _ passes) in
    (sym (moved ∙ ap (λ r. e ∷ r) rest), cond-true (Some e.1) _ passes ∙ ap (λ f. Some f.1) same)

-- what is first is found, and stays first
pub first_is_found : (q : Asked) (c : Verdicts) (p : Asked) (k : Kept) → Some (p, k) ≡ slice_get c.entries 0 → asks q p ≡ true →
    (c ≡ with_first q c) × (found_under q c ≡ Some k)
first_is_found q c p k h t =
    let both = in_front q c.entries p k h t in
    (λ i. verdicts (both.0 i) c.capacity, both.1)

pub kept_is_found : (q : Asked) (k : Kept) (c : Verdicts) → found_under q (with_kept q k c) ≡ Some k
kept_is_found q k c = lookup-put_entries asks (lru_cache c.entries c.capacity) q k asks_equiv

pub Contains-first : (q : Asked) (c : Verdicts) (e : Asked × Kept) → Contains (with_first q c).entries e → Contains c.entries e
Contains-first q c = Contains-promoted (asks q) c.entries

pub Contains-kept : (q : Asked) (k : Kept) (c : Verdicts) (e : Asked × Kept) → Contains (with_kept q k c).entries e →
    Contains c.entries e ⊎ (e ≡ (q, k))
Contains-kept q k c e h = elim (Contains-put_entries asks (lru_cache c.entries c.capacity) q k e h) [
  | inl there ↦ inl there
  | inr put ↦ inr (elim put.1 [
    | inl same ↦ λ i. (same i, put.0 i)
    | inr was ↦ λ i. (sym (equal_questions q e.0 was.2) i, put.0 i)
  ])
]

pub Contains-found : (q : Asked) (k : Kept) (c : Verdicts) → found_under q c ≡ Some k → Contains c.entries (q, k)
Contains-found q k c h =
    let there = Contains-lookup (asks q) c.entries k h in
    subst (λ p. Contains c.entries (p, k)) (sym (equal_questions q there.0 there.2)) there.1
