-- How many entries there are after a look or a keep.
use Rattle.std.proofs.Common.{◌≡◌, ℕ, zero, suc, ◌-◌, ◌<◌, ◌≤◌, List, [], ◌∷◌, length, take, Option, Some, None}
use Rattle.std.proofs.Common.{refl, sym, ap, ◌∙◌, arith}
use Rattle.std.specs.Option.{option_map_or}
use Rattle.std.specs.Map.{lookup_entry, remove_entry}
use Rattle.verdict_cache.specs.Questions.{Asked, Kept, Verdicts, asks, with_first, with_kept}
use Rattle.verdict_cache.proofs.KeptEntries.{by_answer, cond-true, cond-false, Entries}

in_front : {X : Type 0} (n : ℕ) (xs : List X) → length (take n xs) ≤ n
in_front zero xs = omega arith
in_front (suc n) [] = omega arith
in_front (suc n) (x ∷ xs) = omega (arith, in_front n xs)

module _ (q : Asked) where
  without : (es : Entries) (e : Asked × Kept) → lookup_entry (asks q) es ≡ Some e → suc (length (remove_entry (asks q) es)) ≡ length es
  without [] e h = absurd (cc h)
  without (f ∷ es) e h = by_answer (asks q f.0)
      (λ y. ap (λ l. suc (length l)) (cond-true es _ y))
      (λ n. ap (λ l. suc (length l)) (cond-false es _ n) ∙ ap suc (without es e (sym (cond-false (Some f) _ n) ∙ h)))

  looked : (es : Entries) (o : Option (Asked × Kept)) → lookup_entry (asks q) es ≡ o →
      length (option_map_or (λ e. e ∷ remove_entry (asks q) es) o es) ≡ length es
  looked es None h = refl
  looked es (Some e) h = without es e h

  pub length-first : (c : Verdicts) → length (with_first q c).entries ≡ length c.entries
  length-first c = looked c.entries (lookup_entry (asks q) c.entries) refl

  kept : (k : Kept) (es : Entries) (capacity : ℕ) → 0 < capacity → length es ≤ capacity →
      (o : Option (Asked × Kept)) → lookup_entry (asks q) es ≡ o →
      length (option_map_or (λ e. (e.0, k) ∷ remove_entry (asks q) es) o ((q, k) ∷ take (capacity - 1) es)) ≤ capacity
  kept k es capacity some within None h = omega (arith, some, in_front (capacity - 1) es)
  kept k es capacity some within (Some e) h = omega (arith, within, without es e h)

  pub length-kept : (k : Kept) (c : Verdicts) → 0 < c.capacity → length c.entries ≤ c.capacity →
      length (with_kept q k c).entries ≤ c.capacity
  length-kept k c some within = kept k c.entries c.capacity some within (lookup_entry (asks q) c.entries) refl
