-- Verdicts that a comparison finds equal are one verdict.
use Rattle.std.proofs.Common.{◌≡◌, Bool, true, refl, ap, rules}
use Rattle.std.specs.Bool.{Decides}
use Rattle.std.specs.contracts.prelude.BoolPartialEq.TheImpl as bool_impl
use Rattle.std.proofs.lemmas.Bool.{and_parts}
use Rattle.names.specs.declared.permissions.Permission.{Permission}
use Rattle.names.specs.declared.permissions.Perms.{Perms}
use Rattle.names.specs.Permissions.{has}
use Rattle.names.specs.laws.PermissionSets.{same_perms as sets_by_members}
use Rattle.names.specs.contracts.permissions.PermsPartialEq.TheImpl as perms_impl
use Rattle.names.specs.declared.verdict.Verdict.{Verdict}
use Rattle.names.specs.declared.verdict.Verdict.TheVariants.{Allowed, Denied, NoRule}
use Rattle.names.specs.contracts.verdict.VerdictPartialEq.TheImpl as verdict_impl

one_bit : (a b : Bool) → bool_impl.ghosts.eq a b ≡ true → a ≡ b
one_bit = search rules

same_members : (p q : Perms) → perms_impl.eq-value.it p q ≡ true → (r : Permission) → has p r ≡ has q r
same_members = search (rules, one_bit, and_parts) depth 16 fits 5000

same_perms : (p q : Perms) → Decides (perms_impl.eq-value.it p q) (p ≡ q)
same_perms p q = (λ e. sets_by_members p q (same_members p q e), λ e. search rules)

missing_of : Verdict → Perms → Perms
missing_of (NoRule p) other = p
missing_of Allowed other = other
missing_of (Denied r) other = other

missing_same : (p q : Perms) → NoRule p ≡ NoRule q → p ≡ q
unfolding missing_of
missing_same p q e = ap (λ v. missing_of v p) e

pub same_verdicts : (v w : Verdict) → Decides (verdict_impl.eq-value.it v w) (v ≡ w)
same_verdicts Allowed Allowed = (λ e. refl, λ e. refl)
same_verdicts Allowed (Denied s) = (λ e. absurd (cc e), λ e. absurd (cc e))
same_verdicts Allowed (NoRule q) = (λ e. absurd (cc e), λ e. absurd (cc e))
same_verdicts (Denied r) Allowed = (λ e. absurd (cc e), λ e. absurd (cc e))
same_verdicts (Denied r) (Denied s) = (λ e. search rules, λ e. search rules)
same_verdicts (Denied r) (NoRule q) = (λ e. absurd (cc e), λ e. absurd (cc e))
same_verdicts (NoRule p) Allowed = (λ e. absurd (cc e), λ e. absurd (cc e))
same_verdicts (NoRule p) (Denied s) = (λ e. absurd (cc e), λ e. absurd (cc e))
same_verdicts (NoRule p) (NoRule q) =
    let same = same_perms p q in
    (λ e. ap NoRule (same.0 (search rules)), λ e. let equal = same.1 (missing_same p q e) in search rules)
