-- The least hits of rules side by side.
use Rattle.std.proofs.Common.{◌≡◌, ◌==◌, ◌⊎◌, inl, inr, ⊎_elim, ℕ, ◌<◌, ◌≤◌, List, if◌then◌else◌, sym, ap, subst, arith}
use Rattle.std.proofs.lemmas.Bool.{cases_Bool, cases_lt, eqb-true, eqb-false}
use Rattle.names.specs.declared.permissions.Permission.{Permission}
use Rattle.rule_profile.specs.Profile.{RuleValue}
use Rattle.names.specs.declared.kind.RuleKind.{RuleKind}
use Rattle.names.specs.declared.kind.RuleKind.TheVariants.{Allow, Deny}
use Rattle.names.specs.declared.record.Record.{Record}
use Rattle.names.specs.declared.record.LeastHits.{LeastHits}
use Rattle.names.specs.Hits.{first_number}
use Rattle.names.specs.Least.{IsLeastOrNone, hits_of, record_of}
use Rattle.automaton_products.specs.Products.{joined, joined_hits}
use Rattle.glob_automaton.specs.Parts.{HitsIn, IsLeastIn}

chosen : (n m : ℕ) → ((n ≡ 0) × (first_number n m ≡ m)) ⊎ ((0 < n) × (first_number n m ≡ n))
chosen n m = ⊎_elim
    (λ yes. inl (eqb-true n 0 yes, ap (λ b. if b then m else n) yes))
    (λ no. inr (⊎_elim (λ lt. lt) (λ le. absurd (eqb-false n 0 no (omega (arith, le)))) (cases_lt 0 n), ap (λ b. if b then m else n) no))
    (cases_Bool (n == 0))

module _ (rules : List RuleValue) (first middle last : ℕ) (low : first ≤ middle) (high : middle ≤ last) (kind : RuleKind) (p : Permission)
    (name : List ℕ) where
  -- where none of the first rules hits, the least is that of the others
  of_others : (m : ℕ) → ((k : ℕ) → ¬ (HitsIn rules first middle kind p name k)) → IsLeastOrNone (HitsIn rules middle last kind p name) m →
      IsLeastOrNone (HitsIn rules first last kind p name) m
  of_others m none (inl h) = inl (
    h.0,
    λ k t. ⊎_elim
        (λ lt. h.1 k (lt, t.1, t.2))
        (λ le. none k (t.0, le, t.2))
        (cases_lt middle k),
  )
  of_others m none (inr h) = inr (
    (omega (arith, low, h.0.0), h.0.1, h.0.2),
    λ k t. ⊎_elim
        (λ lt. h.1 k (lt, t.1, t.2))
        (λ le. absurd (none k (t.0, le, t.2)))
        (cases_lt middle k),
  )

  -- where one of the first rules hits, the least is theirs
  of_first : (n : ℕ) → HitsIn rules first middle kind p name n → ((k : ℕ) → HitsIn rules first middle kind p name k → n ≤ k) →
      IsLeastOrNone (HitsIn rules first last kind p name) n
  of_first n h least = inr (
    (h.0, omega (arith, h.1, high), h.2),
    λ k t. ⊎_elim
        (λ lt. omega (arith, lt, h.1))
        (λ le. least k (t.0, le, t.2))
        (cases_lt middle k),
  )

  pub least_joined : (n m : ℕ) → IsLeastOrNone (HitsIn rules first middle kind p name) n →
      IsLeastOrNone (HitsIn rules middle last kind p name) m →
      IsLeastOrNone (HitsIn rules first last kind p name) (first_number n m)
  least_joined n m (inl h) least = ⊎_elim
      (λ t. subst (IsLeastOrNone (HitsIn rules first last kind p name)) (sym t.1) (of_others m h.1 least))
      (λ t. absurd (omega (arith, t.0, h.0)))
      (chosen n m)
  least_joined n m (inr h) least = ⊎_elim
      (λ t. absurd (omega (arith, t.0, h.0.0)))
      (λ t. subst (IsLeastOrNone (HitsIn rules first last kind p name)) (sym t.1) (of_first n h.0 h.1))
      (chosen n m)

-- the record of both
pub record_joined : ((hits : Permission → LeastHits) (p : Permission) → hits_of (record_of hits) p ≡ hits p) →
    (rules : List RuleValue) (first middle last : ℕ) → first ≤ middle → middle ≤ last → (name : List ℕ) (r s : Record) →
    IsLeastIn rules first middle name r → IsLeastIn rules middle last name s → IsLeastIn rules first last name (joined r s)
record_joined made rules first middle last low high name r s one other p =
    let its : hits_of (joined r s) p ≡ joined_hits (hits_of r p) (hits_of s p) = made (λ q. joined_hits (hits_of r q) (hits_of s q)) p in (
      subst (λ (z : LeastHits). IsLeastOrNone (HitsIn rules first last Allow p name) z.allow) (sym its)
          (least_joined rules first middle last low high Allow p name (hits_of r p).allow (hits_of s p).allow (one p).0 (other p).0),
      subst (λ (z : LeastHits). IsLeastOrNone (HitsIn rules first last Deny p name) z.deny) (sym its)
          (least_joined rules first middle last low high Deny p name (hits_of r p).deny (hits_of s p).deny (one p).1 (other p).1),
    )
