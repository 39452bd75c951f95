-- Each name that is found has a key.
use Rattle.std.proofs.Common.{ℕ, List, Option, IsTrue}
use Rattle.names.specs.Permissions.{has}
use Rattle.names.specs.declared.permissions.Permission.{Permission}
use Rattle.names.specs.declared.permissions.Perms.{Perms}
use Rattle.rule_explain.specs.Reasons.{IsReason, reason}
use Rattle.rule_explain.specs.declared.reason.Reason.{Reason}
use Rattle.rule_explain.specs.declared.reason.Reason.TheVariants.{Allowed, Denied, NoRule}
use Rattle.rule_globs.specs.Rules.{RuleValue}
use Rattle.rule_globs.specs.Tokens.{Token}
use Rattle.question_answers.specs.Alone.{IsDifference, IsDifferenceBy}
use Rattle.question_answers.specs.Findings.{IsWanted, IsWantedBy}
use Rattle.question_answers.specs.declared.quantifier.Quantifier.TheVariants.{Any}
use Rattle.question_answers.specs.declared.quantifier.Witnesses.TheVariants.{EachRule}
use Rattle.question_answers.specs.declared.side.Side.{Side}

-- some reason is right
abbrev pub SomeReason : Type 0
SomeReason = (rules : List RuleValue) (name : List ℕ) (p : Permission) → IsReason rules name p (reason rules name p)

module _ (right : SomeReason) where
  by_reason : (rules : List RuleValue) (path : List Token) (ask : Perms) (p : Permission) (name : List ℕ) → IsTrue (has ask p) →
      IsWanted (Any EachRule) rules path ask name → (r : Reason) → IsReason rules name p r →
      (n : ℕ) × IsWantedBy rules path ask n name
  by_reason rules path ask p name asked w (Allowed n) is = (n, (w, (p, asked, is.1)))
  by_reason rules path ask p name asked w (Denied n) is = absurd (w.1.0 n (p, asked, is.0))
  by_reason rules path ask p name asked w NoRule is = absurd (w.1.1 p (asked, is.1))

  pub some_rule : (rules : List RuleValue) (path : List Token) (ask : Perms) (p : Permission) → IsTrue (has ask p) → (name : List ℕ) →
      IsWanted (Any EachRule) rules path ask name → (n : ℕ) × IsWantedBy rules path ask n name
  some_rule rules path ask p asked name w = by_reason rules path ask p name asked w (reason rules name p) (right rules name p)

  pub some_pair : (below : Option (List Token)) (old new : List RuleValue) (p : Permission) (side : Side) (name : List ℕ) →
      IsDifference below old new p side name → (r : Reason × Reason) × IsDifferenceBy below old new p side r name
  some_pair below old new p side name is =
      ((reason old name p, reason new name p), (is, right old name p, right new name p))
