-- Tests of sets of permissions.
use Rattle.std.proofs.Common.{◌≡◌, ◌↔◌, Bool, true, false, not, IsTrue, refl, sym, ap}
use Rattle.std.proofs.lemmas.Bool.{not-true, not_from_false}
use Rattle.names.specs.laws.PermissionSets.{all_pass, each_passes, shares_by_any}
use Rattle.names.specs.Permissions.{Shares, has}
use Rattle.names.specs.declared.permissions.Permission.{Permission}
use Rattle.names.specs.declared.permissions.Perms.{Perms}
use Rattle.trace_lint.specs.Parts.{decides_none_of, decides_nothing}

-- tests that pass together are one
pub one_test : (a b : Bool) → (a ≡ true → b ≡ true) → (b ≡ true → a ≡ true) → a ≡ b
one_test true b to from = sym (to refl)
one_test false true to from = from refl
one_test false false to from = refl

pub nothing_by_each : (s : Perms) (b : Bool) → IsTrue b ↔ ((p : Permission) → has s p ≡ false) → b ≡ decides_nothing s
nothing_by_each s b is = one_test b (decides_nothing s)
    (λ h. all_pass (λ p. not (has s p)) (λ p. not_from_false (has s p) (is.0 h p)))
    (λ h. is.1 (λ p. not-true (has s p) (each_passes (λ q. not (has s q)) h p)))

pub none_by_shares : (s t : Perms) (b : Bool) → IsTrue b ↔ Shares s t → not b ≡ decides_none_of s t
none_by_shares s t b is = ap not (one_test b _
    (λ h. (shares_by_any s t).1 (is.0 h))
    (λ h. is.1 ((shares_by_any s t).0 h)))
