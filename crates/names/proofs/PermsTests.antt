-- Sets of permissions that are gathered by a test, one permission after the other.
use Rattle.std.proofs.Common.{◌≡◌, ◌≢◌, ◌+◌, ◌<◌, ◌≤◌, ◌==◌, ◌||◌, ◌⊎◌, ⊎_elim, inl, inr, ℕ, nat_lt, Bool, true, false, slice_index_or}
use Rattle.std.proofs.Common.{refl, sym, ap, ◌∙◌, subst, arith, eq-eqb}
use Rattle.std.proofs.lemmas.Bool.{cases_Bool, eqb-true, ltb-true, ltb-false}
use Rattle.names.specs.declared.permissions.Permission.{Permission}
use Rattle.names.specs.declared.permissions.Perms.{Perms}
use Rattle.names.specs.Permissions.{all_permissions, has, index, letter, permission_count, set_of, with_permission}
use Rattle.names.specs.laws.PermissionSets.{has-set_of, same_letter, same_perms}

-- one more permission is in the set, and no other
with_itself : (s : Perms) (q : Permission) → has (with_permission s q) q ≡ true
with_itself s q = has-set_of (λ r. has s r || (letter r == letter q)) q ∙ ap (λ (b : Bool). has s q || b)
    (eq-eqb (letter q) (letter q) refl) ∙ or_true (has s q)
  where
    or_true : (a : Bool) → (a || true) ≡ true
    or_true true = refl
    or_true false = refl

with_another : (s : Perms) (q p : Permission) → p ≢ q → has (with_permission s q) p ≡ has s p
with_another s q p other =
    has-set_of (λ r. has s r || (letter r == letter q)) p
    ∙ ap (λ (b : Bool). has s p || b) (⊎_elim (λ is. absurd (other (same_letter p q (eqb-true (letter p) (letter q) is)))) (λ f. f)
    (cases_Bool (letter p == letter q)))
    ∙ or_false (has s p)
  where
    or_false : (a : Bool) → (a || false) ≡ a
    or_false true = refl
    or_false false = refl

lower_or_there : (k i : ℕ) → k < i + 1 → (k < i) ⊎ (k ≡ i)
lower_or_there k i low = ⊎_elim (λ is. inl (ltb-true k i is)) (λ is. inr (omega (arith, low, ltb-false k i is))) (cases_Bool (nat_lt k i))

module _ (test : Permission → Bool) where
  -- the set has what passes the test and comes before i, and nothing else
  abbrev pub IsPassedBefore : ℕ → Perms → Type 0
  IsPassedBefore i s = ((p : Permission) → index p < i → has s p ≡ test p) × ((p : Permission) → i ≤ index p → has s p ≡ false)

  -- after the last permission it is the set of all that pass
  pub passed-all : ((p : Permission) → index p < permission_count) → (i : ℕ) (s : Perms) → permission_count ≤ i → IsPassedBefore i s →
      s ≡ set_of test
  passed-all below i s le before =
      same_perms s (set_of test) (λ p. before.0 p (omega (arith, le, below p)) ∙ sym (has-set_of test p))

  module _ (there : (p other : Permission) → slice_index_or all_permissions (index p) other ≡ p) where
    -- a permission that isn't at i isn't the one that is
    elsewhere : (i : ℕ) (q p : Permission) → index q ≡ i → index p ≢ i → p ≢ q
    elsewhere i q p at other = λ is. other (ap index is ∙ at)

    here : (i : ℕ) (q p : Permission) → index q ≡ i → index p ≡ i → q ≡ p
    here i q p at too = sym (there q p) ∙ ap (λ (k : ℕ). slice_index_or all_permissions k p) (at ∙ sym too) ∙ there p p

    -- the one at i passes, and joins the set
    pub passed-more : (i : ℕ) (q : Permission) (s : Perms) → index q ≡ i → test q ≡ true → IsPassedBefore i s →
        IsPassedBefore (i + 1) (with_permission s q)
    passed-more i q s at passes before = (
      λ p low. ⊎_elim
          (λ lower. with_another s q p (elsewhere i q p at (λ e. omega (arith, lower, e))) ∙ before.0 p lower)
          (λ is. subst (λ (z : Permission). has (with_permission s q) z ≡ test z) (here i q p at is) (with_itself s q ∙ sym passes))
          (lower_or_there (index p) i low),
      λ p high. with_another s q p (elsewhere i q p at (λ e. omega (arith, high, e))) ∙ before.1 p (omega (arith, high)),
    )

    -- the one at i doesn't pass
    pub passed-same : (i : ℕ) (q : Permission) (s : Perms) → index q ≡ i → test q ≡ false → IsPassedBefore i s → IsPassedBefore (i + 1) s
    passed-same i q s at fails before = (
      λ p low. ⊎_elim
          (λ lower. before.0 p lower)
          (λ is. before.1 p (omega (arith, is)) ∙ sym (subst (λ (z : Permission). test z ≡ false) (here i q p at is) fails))
          (lower_or_there (index p) i low),
      λ p high. before.1 p (omega (arith, high)),
    )
