-- The verdict agrees with the reasons for what is asked.
use Rattle.std.proofs.Common.{◌≡◌, ℕ, List, IsTrue, subst}
use Rattle.names.specs.declared.permissions.Permission.{Permission}
use Rattle.names.specs.declared.permissions.Perms.{Perms}
use Rattle.names.specs.Permissions.{has}
use Rattle.rule_globs.specs.Rules.{RuleValue}
use Rattle.rule_globs.specs.Verdict.{IsLeast, IsVerdict, Hits, Denies}
use Rattle.names.specs.declared.kind.RuleKind.TheVariants.{Allow}
use Rattle.names.specs.declared.verdict.Verdict.{Verdict}
use Rattle.names.specs.declared.verdict.Verdict.TheVariants as verdicts
use Rattle.rule_explain.specs.declared.reason.Reason.{Reason}
use Rattle.rule_explain.specs.declared.reason.Reason.TheVariants.{Allowed, Denied, NoRule}
use Rattle.rule_explain.specs.Reasons.{IsReason, reason}
use Rattle.rule_explain.specs.VerdictReasons.{IsDeniedBy, IsAllowed, AgreesWithReasons}
use Rattle.rule_explain.proofs.ReasonLaws.{reason_is_right, one_reason}

module _ (rules : List RuleValue) (name : List ℕ) where
  -- the reason, where it is known by its hits
  known : (p : Permission) (r : Reason) → IsReason rules name p r → reason rules name p ≡ r
  known p r h = one_reason rules name p (reason rules name p) r (reason_is_right rules name p) h

  -- and its hits, where the reason is known
  hits_of : (p : Permission) (r : Reason) → reason rules name p ≡ r → IsReason rules name p r
  hits_of p r e = subst (IsReason rules name p) e (reason_is_right rules name p)

  -- a denial of something asked is one by the reasons
  denied : (ask : Perms) (n : ℕ) → IsLeast (Denies rules name ask) n → IsLeast (IsDeniedBy rules name ask) n
  denied ask n h = (
    (h.0.0, h.0.1, known h.0.0 (Denied n) (h.0.2, λ m hit. h.1 m (h.0.0, h.0.1, hit))),
    λ m by. h.1 m (by.0, by.1, (hits_of by.0 (Denied m) by.2).0),
  )

  allowed : (ask : Perms) (p : Permission) (r : Reason) → IsReason rules name p r → IsTrue (has ask p) →
      ((n : ℕ) → Denies rules name ask n → ⊥)
      → (((n : ℕ) → Hits rules Allow p name n → ⊥) → ⊥) → IsAllowed r
  allowed ask p (Allowed n) h asked none some = tt
  allowed ask p (Denied n) h asked none some = absurd (none n (p, asked, h.0))
  allowed ask p NoRule h asked none some = absurd (some h.1)

  pub agrees : (ask : Perms) (v : Verdict) → IsVerdict rules name ask v → AgreesWithReasons rules name ask v
  agrees ask (verdicts.Denied n) h = denied ask n h
  agrees ask (verdicts.NoRule missing) h = λ p. (
    λ is. let m = (h.2 p).0 is in (m.0, known p NoRule (λ n hit. h.0 n (p, m.0, hit), m.1)),
    λ by. (h.2 p).1 (by.0, (hits_of p NoRule by.1).1),
  )
  agrees ask verdicts.Allowed h = λ p asked.
      allowed ask p (reason rules name p) (reason_is_right rules name p) asked h.0 (λ none. h.1 p (asked, none))
