-- The entries of a cache after it was asked, whether or not memory was refused.
use Rattle.std.proofs.Common.{◌≡◌, Contains, subst, inl}
use Rattle.std.specs.Prelude.{Result, Ok, Err, OnOk, OnErr}
use mathlib.Core.Logic.{◌⊎◌}
use Rattle.names.specs.declared.errors.NoMemory.{NoMemory}
use Rattle.verdict_cache.specs.Questions.{Asked, Kept, Verdicts, with_first, with_kept}

-- each entry after a look or a keep, also if it was refused, was there before, or is what was kept
pub before_look : {T : Type 0} (X : Type 0) (q : Asked) (old new : Verdicts) (r : Result T NoMemory)
    → ((q : Asked) (c : Verdicts) (e : Asked × Kept) → Contains (with_first q c).entries e → Contains c.entries e)
    → OnOk r (new ≡ with_first q old) → OnErr r ((new ≡ old) × X) → (e : Asked × Kept) → Contains new.entries e → Contains old.entries e
before_look X q old new (Ok x) stay used err e there = stay q old e (subst (λ (c : Verdicts). Contains c.entries e) used there)
before_look X q old new (Err x) stay used err e there = subst (λ (c : Verdicts). Contains c.entries e) err.0 there

pub before_keep : {T : Type 0} (q : Asked) (k : Kept) (old new : Verdicts) (r : Result T NoMemory)
    → ((q : Asked) (k : Kept) (c : Verdicts) (e : Asked × Kept) → Contains (with_kept q k c).entries e
    → Contains c.entries e ⊎ (e ≡ (q, k)))
    → OnOk r (new ≡ with_kept q k old) → OnErr r (new ≡ old) → (e : Asked × Kept) → Contains new.entries e
    → Contains old.entries e ⊎ (e ≡ (q, k))
before_keep q k old new (Ok x) stay kept err e there = stay q k old e (subst (λ (c : Verdicts). Contains c.entries e) kept there)
before_keep q k old new (Err x) stay kept err e there = inl (subst (λ (c : Verdicts). Contains c.entries e) err there)
