-- Where fewer slots are used than an index has places, one of its words is 0 or 1.
use Rattle.std.proofs.Common.{◌≡◌, ◌≢◌, ℕ, zero, suc, ◌+◌, ◌-◌, ◌<◌, ◌≤◌, ◌||◌, Bool, true, false, List, [], ◌∷◌, length}
use Rattle.std.proofs.Common.{sym, refl, ap, subst, arith, eqb-true, eq-eqb, ne_eqb}
use Rattle.std.specs.Prelude.{nat_eq}
use Rattle.std.specs.Cmp.{nat_eq_equiv}
use Rattle.std.specs.List.{IsDistinct, AllByRecursion}
use Rattle.std.specs.Set.{is_member}
use Rattle.std.proofs.lemmas.Map.Made.{length-le_from_is_member}
use mathlib.Core.Logic.{inl, inr, dite}
use native.Mathlib.Decide.{ℕ_discrete}
use Rattle.row_index.specs.Places.{around}
use Rattle.row_index.specs.Index.{Indexes}
use Rattle.row_index.specs.laws.Rounds.{around_within, around_apart}

true_is_false : true ≡ false → ⊥
true_is_false e = absurd (cc e)

or_right : (a b : Bool) → b ≡ true → (a || b) ≡ true
or_right true b h = refl
or_right false b h = h

-- the numbers from k down to 1
abbrev down_from : ℕ → List ℕ
down_from zero = []
down_from (suc k) = suc k ∷ down_from k

length-down : (k : ℕ) → length (down_from k) ≡ k
length-down zero = refl
length-down (suc k) = ap suc (length-down k)

in_down : (k q : ℕ) → 0 < q → q ≤ k → is_member nat_eq (down_from k) q ≡ true
in_down zero q low high = absurd (omega arith)
in_down (suc k) q low high = dite (ℕ_discrete q (suc k))
    (λ e. ap (λ (b : Bool). b || is_member nat_eq (down_from k) q) (eq-eqb q (suc k) e))
    (λ other. or_right (nat_eq q (suc k)) _ (in_down k q low (omega arith)))

module _ (size : ℕ) (word : ℕ → ℕ) (used : ℕ → Type 0) (home : ℕ → ℕ) (keeps : Indexes size word used home) (start : ℕ)
    (low : start < size) (full : (i : ℕ) → i < size → 2 ≤ word (around size (start + i))) where
  -- the slots that are named on the way, the last ones first
  abbrev named : ℕ → List ℕ
  named zero = []
  named (suc k) = (word (around size (start + k)) - 1) ∷ named k

  length-named : (k : ℕ) → length (named k) ≡ k
  length-named zero = refl
  length-named (suc k) = ap suc (length-named k)

  pub record IsNamed (k q : ℕ) : Type 0 where
    pub at : ℕ
    pub before : at < k
    pub is : word (around size (start + at)) ≡ q + 1
    pub taken : used q

  names : (k : ℕ) → k < size → used (word (around size (start + k)) - 1)
  names k l =
      let f = full k l in
      elim (keeps.others (around size (start + k)) (around_within size (start + k) (omega arith))) [
        | inl small ↦ absurd (omega arith)
        | inr there ↦ let e = there.2 in subst used (let s : there.0 ≡ word (around size (start + k)) - 1 = omega arith in s) there.1
      ]

  all_named : (k : ℕ) → k ≤ size → (q : ℕ) → is_member nat_eq (named k) q ≡ true → IsNamed k q
  all_named zero l q h = absurd (true_is_false (sym h))
  all_named (suc k) l q h =
      elim (nat_eq q (word (around size (start + k)) - 1)) as (λ (b : Bool). nat_eq q (word (around size (start + k)) - 1) ≡ b
      → (b || is_member nat_eq (named k) q) ≡ true → IsNamed (suc k) q) [
        | true ↦ λ p r.
            let e = eqb-true q (word (around size (start + k)) - 1) p in
            let f = full k (omega arith) in
            record { at = k; before = omega arith; is = omega arith; taken = subst used (sym e) (names k (omega arith)) }
        | false ↦ λ p r.
            let n = all_named k (omega arith) q r in
            let b = n.before in
            record { at = n.at; before = omega arith; is = n.is; taken = n.taken }
      ] refl h

  not_in : (x : ℕ) (qs : List ℕ) → ((q : ℕ) → is_member nat_eq qs q ≡ true → x ≢ q) → AllByRecursion (λ y. nat_eq x y ≡ false) qs
  not_in x [] h = tt
  not_in x (q ∷ qs) h = (
    ne_eqb x q (h q (ap (λ (b : Bool). b || is_member nat_eq qs q) (eq-eqb q q refl))),
    not_in x qs (λ y is. h y (or_right (nat_eq y q) _ is)),
  )

  distinct_named : (k : ℕ) → k ≤ size → IsDistinct nat_eq (named k)
  unfolding IsDistinct
  distinct_named zero l = tt
  distinct_named (suc k) l = (
    not_in (word (around size (start + k)) - 1) (named k) (λ q h e.
        let n = all_named k (omega arith) q h in
        let f = full k (omega arith) in
        let b = n.before in
        let one : word (around size (start + k)) ≡ q + 1 = omega arith in
        let near = around_within size (start + k) (omega arith) in
        let far = around_within size (start + n.at) (omega arith) in
        let places = keeps.once (around size (start + k)) (around size (start + n.at)) q near far n.taken one n.is in
        let same = around_apart size start k n.at low (omega arith) (omega arith) places in
        absurd (omega arith)),
    distinct_named k (omega arith),
  )

  pub not_full : (most : ℕ) → ((x : ℕ) → used x → (0 < x) × (x ≤ most)) → most < size → ⊥
  not_full most within few =
      let a = length-le_from_is_member nat_eq_equiv (named size) (down_from most) (distinct_named size (omega arith)) (λ q h.
      let n = all_named size (omega arith) q h in let w = within q n.taken in let x = w.0 in let y = w.1 in in_down most q x y) in
      let b = length-named size in
      let c = length-down most in
      absurd (omega arith)
