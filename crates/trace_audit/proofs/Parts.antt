-- Parts that were added one after another.
use Rattle.std.proofs.Common.{◌≡◌, ◌∙◌, ℕ, List, ◌++◌, ap, append_assoc}

pub two : (l0 l1 l2 a b : List ℕ) → l1 ≡ l0 ++ a → l2 ≡ l1 ++ b → l2 ≡ l0 ++ (a ++ b)
two l0 l1 l2 a b e1 e2 = e2 ∙ ap (λ (x : List ℕ). x ++ b) e1 ∙ append_assoc l0 a b
