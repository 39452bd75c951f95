-- Variables count one number together.
use Rattle.std.proofs.Common.{◌≡◌, ℕ, ◌+◌, List, [], ◌∷◌, refl, sym, ap, ap₂, ◌∙◌, inl, inr, ⊎_elim}
use Rattle.apparmor_pieces.specs.Pieces.{Text}
use Rattle.apparmor_variables.specs.Variables.{Variable, byte_count}
use Rattle.apparmor_variables.specs.Counts.{list_count, most_list_count, ListCounts, CountTogether}
use Rattle.apparmor_variables.proofs.ListLaws.{one_list}
use Rattle.apparmor_variables.proofs.ProblemLaws.{none_on, problem_excludes, some_outcome}

some_list_count : (variables : List Variable) (name : Text) → (n : ℕ) × ListCounts variables name n
some_list_count variables name =
    ⊎_elim (λ listed. (list_count listed.0, inl (listed.0, listed.1, refl))) (λ p. (most_list_count, inr (p.0, p.1, refl)))
    (some_outcome variables name)

one_list_count : (variables : List Variable) (name : Text) (one other : ℕ) → ListCounts variables name one →
    ListCounts variables name other → one ≡ other
one_list_count variables name one other (inl a) (inl b) = a.2 ∙ ap list_count (one_list variables name a.0 b.0 a.1 b.1) ∙ sym b.2
one_list_count variables name one other (inl a) (inr b) =
    absurd (problem_excludes variables [] name b.0 (none_on variables) b.1 (a.0, a.1))
one_list_count variables name one other (inr a) (inl b) =
    absurd (problem_excludes variables [] name a.0 (none_on variables) a.1 (b.0, b.1))
one_list_count variables name one other (inr a) (inr b) = a.2 ∙ sym b.2

pub some_count : (variables some : List Variable) → (n : ℕ) × CountTogether variables some n
some_count variables [] = (0, refl)
some_count variables (v ∷ others) =
    let list = some_list_count variables v.name in
    let rest = some_count variables others in
    let one = byte_count v.values + list.0 in
    (one + rest.0, (one, rest.0, (list.0, list.1, refl), rest.1, refl))

pub one_count : (variables some : List Variable) (one other : ℕ) → CountTogether variables some one →
    CountTogether variables some other → one ≡ other
one_count variables [] one other a b = a ∙ sym b
one_count variables (v ∷ others) one other a b =
    let list = one_list_count variables v.name a.2.0 b.2.0 a.2.1 b.2.1 in
    let first = a.2.2 ∙ ap (λ n. byte_count v.values + n) list ∙ sym b.2.2 in
    let rest = one_count variables others a.1 b.1 a.3 b.3 in
    a.4 ∙ ap₂ (λ n m. n + m) first rest ∙ sym b.4
