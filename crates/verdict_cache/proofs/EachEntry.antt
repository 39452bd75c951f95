-- For callers: what holds of each entry stays so, and holds of what is found.
use Rattle.std.proofs.Common.{◌≡◌, ℕ, [], Some, sym, subst, inl, inr}
use Rattle.lru.proofs.Splits.{Contains-nil}
use Rattle.verdict_cache.specs.Questions.{Asked, Kept, Verdicts, verdicts, found_under, with_first, with_kept, OfEach}
use Rattle.verdict_cache.proofs.KeptEntries.{Contains-first, Contains-kept, Contains-found}

module _ (P : Asked × Kept → Type 0) where
  -- in an empty cache
  pub OfEach-none : (capacity : ℕ) → OfEach P (verdicts [] capacity)
  OfEach-none capacity e h = absurd (Contains-nil e h)

  -- after a look
  pub OfEach-first : (q : Asked) (c : Verdicts) → OfEach P c → OfEach P (with_first q c)
  OfEach-first q c each e h = each e (Contains-first q c e h)

  -- after a keep
  pub OfEach-kept : (q : Asked) (k : Kept) (c : Verdicts) → P (q, k) → OfEach P c → OfEach P (with_kept q k c)
  OfEach-kept q k c holds each e h = elim (Contains-kept q k c e h) [
    | inl there ↦ each e there
    | inr same ↦ subst P (sym same) holds
  ]

  -- of what is found
  pub OfEach-found : (q : Asked) (k : Kept) (c : Verdicts) → OfEach P c → found_under q c ≡ Some k → P (q, k)
  OfEach-found q k c each h = each (q, k) (Contains-found q k c h)
