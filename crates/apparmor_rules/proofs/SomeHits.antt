-- Hits by the rules that hit, and the verdict Allowed by hits.
use Rattle.std.proofs.Common.{◌≡◌, ◌≢◌, ◌↔◌, ℕ, ◌+◌, ◌-◌, List, IsTrue, slice_index_or, sym, ap, ◌∙◌, subst, arith}
use Rattle.std.specs.List.{Contains}
use Rattle.names.specs.declared.permissions.Permission.{Permission}
use Rattle.names.specs.declared.permissions.Perms.{Perms}
use Rattle.names.specs.Permissions.{has}
use Rattle.names.specs.laws.PermissionSets.{only_one}
use Rattle.rule_globs.specs.Glob.{Takes}
use Rattle.rule_globs.specs.Rules.{RuleValue, pattern, holds}
use Rattle.rule_globs.specs.Verdict.{Hits, IsAllowed, IsVerdict}
use Rattle.apparmor_rules.specs.Lists.{IsHit, LeavesOut}
use Rattle.names.specs.declared.kind.RuleKind.{RuleKind}
use Rattle.names.specs.declared.kind.RuleKind.TheVariants.{Allow, Deny}
use Rattle.names.specs.declared.verdict.Verdict.TheVariants.{Allowed}

-- the rule is of the list, and hits
abbrev pub HitsIn : List RuleValue → RuleKind → Permission → List ℕ → RuleValue → Type 0
HitsIn rules kind p name rule = Contains rules rule × (rule.kind ≡ kind) × IsTrue (holds rule p) × Takes (pattern rule) name

module _ (rules : List RuleValue) (kind : RuleKind) (p : Permission) (name : List ℕ) where
  pub rule_of_hit : IsHit rules kind p name → (rule : RuleValue) × HitsIn rules kind p name rule
  rule_of_hit hit =
      let at = hit.1.1 in
      (hit.1.0, ((hit.0 - 1, omega (arith, at.0, at.1), sym at.2), hit.1.2, hit.1.3, hit.1.4))

  pub hit_of_rule : (rule : RuleValue) → HitsIn rules kind p name rule → IsHit rules kind p name
  hit_of_rule rule hits =
      let here = hits.0 in
      let same : here.0 ≡ here.0 + 1 - 1 = omega arith in (
        here.0 + 1,
        (
          rule,
          (omega arith, omega (arith, here.1), sym here.2 ∙ ap (λ k. slice_index_or rules k rule) same),
          hits.1,
          hits.2,
          hits.3,
        ),
      )

module _ (rules : List RuleValue) (name : List ℕ) (ask : Perms) where
  pub allowed_by_hits : ((p : Permission) → IsTrue (has ask p) → IsHit rules Deny p name → ⊥) →
      ((p : Permission) → IsTrue (has ask p) → IsHit rules Allow p name) → IsVerdict rules name ask Allowed
  allowed_by_hits none_denied each_granted = (
    λ n denies. none_denied denies.0 denies.1 (n, denies.2),
    λ p is_missing. let hit = each_granted p is_missing.0 in is_missing.1 hit.0 hit.1,
  )

  pub none_denied : IsVerdict rules name ask Allowed → (p : Permission) → IsTrue (has ask p) → IsHit rules Deny p name → ⊥
  none_denied allowed p asked hit = allowed.0 hit.0 (p, asked, hit.1)

  -- what is allowed with more is allowed by itself
  alone : IsVerdict rules name ask Allowed → (p : Permission) → IsTrue (has ask p) → IsAllowed rules name p
  alone allowed p asked = (
    λ n denies. allowed.0 n (p, asked, subst (λ q. Hits rules Deny q name n) (only_one p denies.0 denies.1) denies.2),
    λ q is_missing. allowed.1 q (subst (λ r. IsTrue (has ask r)) (sym (only_one p q is_missing.0)) asked, is_missing.1),
  )

  pub each_granted : ((rules : List RuleValue) (name : List ℕ) (p : Permission) →
      IsAllowed rules name p ↔ (((n : ℕ) → Hits rules Deny p name n → ⊥) × ((n : ℕ) × Hits rules Allow p name n))) →
      IsVerdict rules name ask Allowed → (p : Permission) → IsTrue (has ask p) → IsHit rules Allow p name
  each_granted law allowed p asked = ((law rules name p).0 (alone allowed p asked)).1

-- ---- lists of which some are left out

module _ (left_out : RuleKind) (rules left : List RuleValue) (leaves : LeavesOut left_out rules left) (p : Permission)
    (name : List ℕ) where
  pub no_other_hits : (kind : RuleKind) → IsHit left kind p name → IsHit rules kind p name
  no_other_hits kind hit =
      let found = rule_of_hit left kind p name hit in
      hit_of_rule rules kind p name found.0 (leaves.no_others found.0 found.1.0, found.1.1, found.1.2, found.1.3)

  pub all_other_hits : (kind : RuleKind) → kind ≢ left_out → IsHit rules kind p name → IsHit left kind p name
  all_other_hits kind other hit =
      let found = rule_of_hit rules kind p name hit in
      hit_of_rule left kind p name found.0
      (leaves.all_others found.0 found.1.0 (λ e. other (sym found.1.1 ∙ e)), found.1.1, found.1.2, found.1.3)

different : Deny ≡ Allow → ⊥
different e = cc (e)

module _ (rules left : List RuleValue) (name : List ℕ) (ask : Perms) where
  pub fewer_allow : LeavesOut Allow rules left → IsVerdict left name ask Allowed → IsVerdict rules name ask Allowed
  fewer_allow leaves allowed = (
    λ n denies. let hit = all_other_hits Allow rules left leaves denies.0 name Deny different (n, denies.2) in
        allowed.0 hit.0 (denies.0, denies.1, hit.1),
    λ p is_missing. allowed.1 p (
      is_missing.0,
      λ n hit. let hits = no_other_hits Allow rules left leaves p name Allow (n, hit) in is_missing.1 hits.0 hits.1,
    ),
  )

  pub fewer_deny : LeavesOut Deny rules left → IsVerdict rules name ask Allowed → IsVerdict left name ask Allowed
  fewer_deny leaves allowed = (
    λ n denies. let hit = no_other_hits Deny rules left leaves denies.0 name Deny (n, denies.2) in
        allowed.0 hit.0 (denies.0, denies.1, hit.1),
    λ p is_missing. allowed.1 p (
      is_missing.0,
      λ n hit. let hits = all_other_hits Deny rules left leaves p name Allow (λ e. different (sym e)) (n, hit) in
          is_missing.1 hits.0 hits.1,
    ),
  )
