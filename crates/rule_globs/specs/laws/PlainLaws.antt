-- The computed verdict is right, and what being allowed means.
use Rattle.std.proofs.Common.{[], ◌≡◌, ℕ, ◌+◌, ◌-◌, ◌<◌, ◌≤◌, Bool, true, false, not, ◌&&◌, ◌↔◌, ⊎_elim, List, IsTrue, Option, Some, None}
use Rattle.std.proofs.Common.{length, get_or, nat_lt, cond, refl, sym, ap, ◌∙◌, subst, arith, if◌then◌else◌, true≢false}
use Rattle.std.specs.List.{list_any, position, position_or_len}
use Rattle.std.proofs.lemmas.Bool.{and_parts, and_from, cases_Bool, not-true, not_from_false, ltb-false, cases_lt}
use Rattle.std.proofs.lemmas.List.{get_or_default}
use Rattle.std.proofs.lemmas.List.Folds.{Any-from_list_any, list_any_at}
use Rattle.std.proofs.lemmas.List.Quantifiers.{position-Some}
use Rattle.std.proofs.lemmas.List.Sums.{fails_before_first}
use Rattle.names.specs.declared.permissions.Permission.{Permission}
use Rattle.names.specs.declared.permissions.Perms.{Perms}
use Rattle.names.specs.Permissions.{has, held, set_of, all_permissions}
use Rattle.rule_globs.specs.Glob.{Takes}
use Rattle.rule_globs.specs.Rules.{RuleValue, holds, pattern}
use Rattle.rule_globs.specs.Verdict.{IsRuleAt, Hits, Denies, IsLeast, IsMissing, IsVerdict, IsAllowed}
use Rattle.rule_globs.specs.inner.RuleHits.{HitsSome}
use Rattle.rule_globs.specs.PlainVerdict.{is_deny, denies, allows, missing, verdict, takes}
use Rattle.names.specs.declared.kind.RuleKind.{RuleKind}
use Rattle.names.specs.declared.kind.RuleKind.TheVariants.{Allow, Deny}
use Rattle.names.specs.declared.verdict.Verdict.TheVariants.{Denied, NoRule, Allowed}
use Rattle.rule_globs.specs.laws.Cuts.{by_cuts}
use Rattle.names.specs.laws.PermissionSets.{has-set_of, shares_by_any, found, one_found, has-only, only_one}

deny_kind : (kind : RuleKind) → is_deny kind ≡ true → kind ≡ Deny
deny_kind Allow h = let e : ⊥ = cc (h) in absurd e
deny_kind Deny h = refl

allow_kind : (kind : RuleKind) → not (is_deny kind) ≡ true → kind ≡ Allow
allow_kind Allow h = refl
allow_kind Deny h = let e : ⊥ = cc (h) in absurd e

-- the tests of a rule, and what they say
denies_says : (name : List ℕ) (ask : Perms) (rule : RuleValue) →
    IsTrue (denies name ask rule) ↔ ((rule.kind ≡ Deny) × HitsSome rule name ask)
denies_says name ask rule = (
  λ h. let outer = and_parts (is_deny rule.kind && list_any (λ p. has ask p && holds rule p) all_permissions)
      (takes (pattern rule) name) h in
      let inner = and_parts (is_deny rule.kind) (list_any (λ p. has ask p && holds rule p) all_permissions) outer.0 in
      (deny_kind rule.kind inner.0, ((shares_by_any ask (held rule.perms)).0 inner.1, (by_cuts (pattern rule) name).0 outer.1)),
  λ h. and_from (is_deny rule.kind && list_any (λ p. has ask p && holds rule p) all_permissions) (takes (pattern rule) name)
      (and_from (is_deny rule.kind) (list_any (λ p. has ask p && holds rule p) all_permissions) (ap is_deny h.0)
      ((shares_by_any ask (held rule.perms)).1 h.1.0))
      ((by_cuts (pattern rule) name).1 h.1.1),
)

allows_says : (name : List ℕ) (p : Permission) (rule : RuleValue) →
    IsTrue (allows name p rule) ↔ ((rule.kind ≡ Allow) × IsTrue (holds rule p) × Takes (pattern rule) name)
allows_says name p rule = (
  λ h. let outer = and_parts (not (is_deny rule.kind) && holds rule p) (takes (pattern rule) name) h in
      let inner = and_parts (not (is_deny rule.kind)) (holds rule p) outer.0 in
      (allow_kind rule.kind inner.0, inner.1, (by_cuts (pattern rule) name).0 outer.1),
  λ h. and_from (not (is_deny rule.kind) && holds rule p) (takes (pattern rule) name)
      (and_from (not (is_deny rule.kind)) (holds rule p) (ap (λ k. not (is_deny k)) h.0) h.1)
      ((by_cuts (pattern rule) name).1 h.2),
)

no_place : (b : Bool) (i : ℕ) → cond b (Some i) None ≡ None → b ≡ false
no_place true i e = let never : ⊥ = cc (e) in absurd never
no_place false i e = refl

-- a rule that says nothing, used where there is none
nothing : RuleValue
nothing = record { kind = Allow; perms = set_of (λ p. false); items = [] }

module _ (rules : List RuleValue) (name : List ℕ) where
  rule_there : (i : ℕ) → i < length rules → IsRuleAt rules (i + 1) (get_or rules i nothing)
  rule_there i lt =
      let back : i ≡ i + 1 - 1 = omega arith in (
        omega arith,
        omega arith,
        get_or_default rules i nothing (get_or rules i nothing) lt ∙ ap (λ z. get_or rules z (get_or rules i nothing)) back,
      )

  -- a rule by its number is the one at its place
  at_place : (n : ℕ) (rule : RuleValue) → IsRuleAt rules n rule → rule ≡ get_or rules (n - 1) nothing
  at_place n rule at = at.2 ∙ get_or_default rules (n - 1) rule nothing (omega (arith, at.0, at.1))

  module _ (ask : Perms) where
    denial_there : (i : ℕ) → i < length rules → denies name ask (get_or rules i nothing) ≡ true → Denies rules name ask (i + 1)
    denial_there i lt h =
        let says = (denies_says name ask (get_or rules i nothing)).0 h in
        (says.1.0.0, says.1.0.1, (get_or rules i nothing, rule_there i lt, says.0, says.1.0.2, says.1.1))

    denial_passes : (n : ℕ) → Denies rules name ask n → denies name ask (get_or rules (n - 1) nothing) ≡ true
    denial_passes n d =
        let passes = (denies_says name ask d.2.0).1 (d.2.2, ((d.0, d.1, d.2.3), d.2.4)) in
        subst (λ z. denies name ask z ≡ true) (at_place n d.2.0 d.2.1) passes

    first_denies : (i : ℕ) → position (denies name ask) rules ≡ Some i → IsLeast (Denies rules name ask) (i + 1)
    first_denies i e =
        let at = position-Some (denies name ask) rules i nothing e in (
          denial_there i at.0 at.1,
          λ m d. ⊎_elim
              (λ lt. let fails : denies name ask (get_or rules (m - 1) nothing) ≡ false = at.2 (m - 1) (omega (arith, d.2.1.0, lt)) in
              absurd (true≢false (sym (denial_passes m d) ∙ fails)))
              (λ le. le)
              (cases_lt m (i + 1)),
        )

    none_denies : position (denies name ask) rules ≡ None → (n : ℕ) → Denies rules name ask n → ⊥
    none_denies e n d =
        let past : length rules ≤ position_or_len (denies name ask) rules =
        ltb-false _ _ (no_place (nat_lt (position_or_len (denies name ask) rules) (length rules))
        (position_or_len (denies name ask) rules) e) in
        let fails : denies name ask (get_or rules (n - 1) nothing) ≡ false =
        fails_before_first (denies name ask) rules (n - 1) nothing (omega (arith, d.2.1.0, d.2.1.1, past)) in
        true≢false (sym (denial_passes n d) ∙ fails)

  -- some rule allows p exactly where it has an allow hit
  allow_found : (p : Permission) → list_any (allows name p) rules ≡ true → (n : ℕ) × Hits rules Allow p name n
  allow_found p h =
      let some = Any-from_list_any (allows name p) rules h in
      let back : some.0 ≡ some.0 + 1 - 1 = omega arith in
      let says = (allows_says name p some.1).0 some.4 in (
        some.0 + 1,
        (
          some.1,
          (
            omega arith,
            omega (arith, some.2),
            sym some.3 ∙ ap (λ z. get_or rules z some.1)
                back,
          ),
          says.0,
          says.1,
          says.2,
        ),
      )

  allow_passes : (p : Permission) (n : ℕ) → Hits rules Allow p name n → list_any (allows name p) rules ≡ true
  allow_passes p n hit =
      let passes = (allows_says name p hit.0).1 (hit.2, hit.3, hit.4) in
      list_any_at (allows name p) rules (n - 1) nothing (omega (arith, hit.1.0, hit.1.1))
      (subst (λ z. allows name p z ≡ true) (at_place n hit.0 hit.1) passes)

  module _ (ask : Perms) where
    missing_says : (p : Permission) → IsTrue (has (missing rules name ask) p) ↔ IsMissing rules name ask p
    missing_says p =
        let is : has (missing rules name ask) p ≡ (has ask p && not (list_any (allows name p) rules)) =
        has-set_of (λ q. has ask q && not (list_any (allows name q) rules)) p in (
          λ h. let both = and_parts (has ask p) (not (list_any (allows name p) rules)) (sym is ∙ h) in (
            both.0,
            λ n hit. true≢false (sym (allow_passes p n hit) ∙ not-true (list_any (allows name p) rules) both.1),
          ),
          λ h. is ∙ and_from (has ask p) (not (list_any (allows name p) rules)) h.0
              (⊎_elim
              (λ t. let w = allow_found p t in absurd (h.1 w.0 w.1))
              (λ f. not_from_false (list_any (allows name p) rules) f)
              (cases_Bool (list_any (allows name p) rules))),
        )

    none_denied : (b : Bool) → list_any (has (missing rules name ask)) all_permissions ≡ b →
        position (denies name ask) rules ≡ None →
        IsVerdict rules name ask (if b then NoRule (missing rules name ask) else Allowed)
    none_denied true e h = (none_denies ask h, one_found (has (missing rules name ask)) e, missing_says)
    none_denied false e h = (
      none_denies ask h,
      λ p m. true≢false (sym (found (has (missing rules name ask)) p ((missing_says p).1 m)) ∙ e),
    )

    by_first : (o : Option ℕ) → position (denies name ask) rules ≡ o →
        IsVerdict rules name ask
        (elim o [
          | Some before ↦ Denied (before + 1)
          | None ↦ if list_any (has (missing rules name ask)) all_permissions then NoRule (missing rules name ask) else Allowed
        ])
    by_first (Some i) e = first_denies ask i e
    by_first None e = none_denied (list_any (has (missing rules name ask)) all_permissions) refl e

    pub verdict_is_right : IsVerdict rules name ask (verdict rules name ask)
    unfolding verdict
    verdict_is_right = by_first (position (denies name ask) rules) refl

-- p alone is asked
pub allowed_by_hits : (rules : List RuleValue) (name : List ℕ) (p : Permission) →
    IsAllowed rules name p ↔ (((n : ℕ) → Hits rules Deny p name n → ⊥) × ((n : ℕ) × Hits rules Allow p name n))
allowed_by_hits rules name p = (
  λ h. (
    λ n hit. h.0 n (p, has-only p, hit),
    ⊎_elim
        (λ t. allow_found rules name p t)
        (λ f. absurd (h.1 p (has-only p, λ n hit. true≢false (sym (allow_passes rules name p n hit) ∙ f))))
        (cases_Bool (list_any (allows name p) rules)),
  ),
  λ h. (
    λ n d. h.0 n (subst (λ q. Hits rules Deny q name n) (only_one p d.0 d.1) d.2),
    λ q m. m.1 h.1.0 (subst (λ r. Hits rules Allow r name h.1.0) (sym (only_one p q m.0)) h.1.1),
  ),
)
