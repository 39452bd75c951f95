-- A history with one more change.
use Rattle.std.proofs.Common.{◌≡◌, ℕ, ◌+◌, List, [], ◌∷◌, ◌++◌, length, refl, ◌∙◌, arith}
use Rattle.std.specs.Prelude.{Ok, Err}
use Rattle.directory_tree.specs.declared.change.Change.{Change}
use Rattle.directory_tree.specs.Tree.{Tree}
use Rattle.directory_tree.specs.Apply.{Changed, and_then, apply_counted, after_from}
use Rattle.names.specs.laws.Results.{err-ok, same_Ok}

then_same : (r : Changed) → and_then r (λ u. Ok u) ≡ r
then_same (Ok t) = refl
then_same (Err e) = refl

pub after_more : (capacity count : ℕ) (t v : Tree) (cs : List Change) (c : Change) (n : ℕ) → n ≡ count + length cs →
    after_from capacity count t cs ≡ Ok v
    → after_from capacity count t (cs ++ c ∷ []) ≡ apply_counted capacity n v c
after_more capacity count t v [] c n is h =
    let same : count ≡ n = omega arith in
    then_same (apply_counted capacity count t c) ∙ (λ i. apply_counted capacity (same i) (same_Ok t v h i) c)
after_more capacity count t v (x ∷ cs) c n is h =
    elim (apply_counted capacity count t x) as (λ (r : Changed). and_then r (λ u. after_from capacity (count + 1) u cs) ≡ Ok v →
    and_then r (λ u. after_from capacity (count + 1) u (cs ++ c ∷ [])) ≡ apply_counted capacity n v c) [
      | Ok w ↦ λ q. after_more capacity (count + 1) w v cs c n (omega arith) q
      | Err e ↦ λ q. absurd (err-ok e v q)
    ] h
