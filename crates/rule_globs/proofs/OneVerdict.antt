-- At most one verdict is right.
use Rattle.std.proofs.Common.{◌≡◌, ℕ, Bool, true, false, ◌↔◌, List, IsTrue, refl, sym, ap, arith}
use Rattle.names.specs.declared.permissions.Permission.{Permission}
use Rattle.names.specs.declared.permissions.Perms.{Perms}
use Rattle.names.specs.Permissions.{has}
use Rattle.names.specs.laws.PermissionSets.{same_perms}
use Rattle.rule_globs.specs.Rules.{RuleValue}
use Rattle.rule_globs.specs.Verdict.{IsVerdict}
use Rattle.names.specs.declared.verdict.Verdict.{Verdict}
use Rattle.names.specs.declared.verdict.Verdict.TheVariants.{Denied, NoRule, Allowed}

same_test : (a b : Bool) {A : Type 0} → (IsTrue a ↔ A) → (IsTrue b ↔ A) → a ≡ b
same_test true true f g = refl
same_test true false f g = sym (g.1 (f.0 refl))
same_test false true f g = f.1 (g.0 refl)
same_test false false f g = refl

pub one_verdict : (rules : List RuleValue) (name : List ℕ) (ask : Perms) (v w : Verdict) →
    IsVerdict rules name ask v → IsVerdict rules name ask w → v ≡ w
one_verdict rules name ask (Denied n) (Denied m) f g =
    let e : n ≡ m = omega (arith, f.1 m g.0, g.1 n f.0) in ap Denied e
one_verdict rules name ask (Denied n) (NoRule m) f g = absurd (g.0 n f.0)
one_verdict rules name ask (Denied n) Allowed f g = absurd (g.0 n f.0)
one_verdict rules name ask (NoRule m) (Denied n) f g = absurd (f.0 n g.0)
one_verdict rules name ask (NoRule m) (NoRule l) f g =
    ap NoRule (same_perms m l (λ p. same_test (has m p) (has l p) (f.2 p) (g.2 p)))
one_verdict rules name ask (NoRule m) Allowed f g = absurd (g.1 f.1.0 ((f.2 f.1.0).0 f.1.1))
one_verdict rules name ask Allowed (Denied n) f g = absurd (f.0 n g.0)
one_verdict rules name ask Allowed (NoRule m) f g = absurd (f.1 g.1.0 ((g.2 g.1.0).0 g.1.1))
one_verdict rules name ask Allowed Allowed f g = refl
