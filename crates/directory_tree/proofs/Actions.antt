-- An accepted change acts on the places that its paths lead to.
use Rattle.std.proofs.Common.{◌≡◌, ℕ, List}
use Rattle.std.specs.Prelude.{Result, Ok, Err}
use Rattle.names.specs.declared.errors.Errno.{Errno}
use Rattle.directory_tree.specs.Tree.{Tree}
use Rattle.directory_tree.specs.Apply.{Changed, Target, and_then, parent_of, at_one, at_two}
use Rattle.names.specs.laws.Results.{err-ok}

-- An accepted change of one place acts on some place.
pub acts_one : (t u : Tree) (target : Result Target Errno) (act : ℕ → List ℕ → Changed) → at_one t target act ≡ Ok u →
    (d : ℕ) × (c : List ℕ) × (act d c ≡ Ok u)
acts_one t u (Err e) act h = absurd (err-ok e u h)
acts_one t u (Ok a) act h = elim (parent_of t a) as (λ (r : Result ℕ Errno). and_then r (λ d. act d a.last) ≡ Ok u → (d : ℕ) × (c : List ℕ)
    × (act d c ≡ Ok u)) [
      | Err e ↦ λ q. absurd (err-ok e u q)
      | Ok d ↦ λ q. (d, a.last, q)
    ] h

-- An accepted change of two places acts on some two.
pub acts_two : (t u : Tree) (old new : Result Target Errno) (act : ℕ → List ℕ → ℕ → List ℕ → Changed) → at_two t old new act ≡ Ok u
    → (d : ℕ) × (c : List ℕ) × (into : ℕ) × (name : List ℕ) × (act d c into name ≡ Ok u)
acts_two t u (Err e) new act h = absurd (err-ok e u h)
acts_two t u (Ok a) (Err e) act h = absurd (err-ok e u h)
acts_two t u (Ok a) (Ok b) act h =
    elim (parent_of t a) as (λ (r : Result ℕ Errno). and_then r (λ d. and_then (parent_of t b) (λ into. act d a.last into b.last)) ≡ Ok u →
    (d : ℕ) × (c : List ℕ) × (into : ℕ) × (name : List ℕ) × (act d c into name ≡ Ok u)) [
      | Err e ↦ λ q. absurd (err-ok e u q)
      | Ok d ↦ λ q. elim (parent_of t b) as (λ (r : Result ℕ Errno). and_then r (λ into. act d a.last into b.last) ≡ Ok u →
          (d : ℕ) × (c : List ℕ) × (into : ℕ) × (name : List ℕ) × (act d c into name ≡ Ok u)) [
            | Err e ↦ λ r. absurd (err-ok e u r)
            | Ok into ↦ λ r. (d, a.last, into, b.last, r)
          ] q
    ] h
