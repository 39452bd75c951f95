-- The number of answers that a predicate doesn't hold of is unique.
use Rattle.std.proofs.Common.{◌≡◌, ℕ, ◌+◌, List, [], ◌∷◌, sym, ap, ◌∙◌, inl, inr}
use Rattle.justification.specs.declared.answer.Answer.{Answer}
use Rattle.path_storm.specs.Counts.{IsCountOfOthers}

pub one_count : (Holds : Answer → Type 0) (answers : List Answer) (one other : ℕ) → IsCountOfOthers Holds answers one
    → IsCountOfOthers Holds answers other → one ≡ other
one_count Holds [] one other none nothing = none ∙ sym nothing
one_count Holds (first ∷ answers) one other (inl (is, rest)) (inl (again, more)) = one_count Holds answers one other rest more
one_count Holds (first ∷ answers) one other (inl (is, rest)) (inr (not, less, e, more)) = absurd (not is)
one_count Holds (first ∷ answers) one other (inr (not, less, e, rest)) (inl (is, more)) = absurd (not is)
one_count Holds (first ∷ answers) one other (inr (not, less, e, rest)) (inr (nor, fewer, d, more)) =
    e ∙ ap (λ n. n + 1) (one_count Holds answers less fewer rest more) ∙ sym d
