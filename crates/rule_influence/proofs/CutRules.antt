-- The rules without one of them, as a shorter list.
use Rattle.std.proofs.Common.{◌≡◌, ◌≢◌, ◌↔◌, ⊎_elim, ℕ, ◌+◌, ◌-◌, ◌<◌, ◌≤◌, ◌++◌, List, drop, length, take}
use Rattle.std.proofs.Common.{IsTrue, get_or, sym, ap, ◌∙◌, subst, arith}
use Rattle.std.proofs.lemmas.Bool.{cases_lt}
use Rattle.std.proofs.lemmas.List.{get_or_append_left, get_or-append_right, get_or-drop, get_or-take, length-append, length-drop}
use Rattle.std.proofs.lemmas.List.{append-nil, drop_all, length-take-le, take_all}
use Rattle.names.specs.declared.permissions.Permission.{Permission}
use Rattle.names.specs.declared.permissions.Perms.{Perms}
use Rattle.names.specs.declared.verdict.Verdict.TheVariants.{Allowed}
use Rattle.names.specs.Paths.{IsName}
use Rattle.names.specs.Permissions.{has}
use Rattle.names.specs.laws.PermissionSets.{has-only, only_one}
use Rattle.names.specs.declared.kind.RuleKind.{RuleKind}
use Rattle.names.specs.declared.kind.RuleKind.TheVariants.{Allow, Deny}
use Rattle.rule_globs.specs.Rules.{RuleValue}
use Rattle.rule_globs.specs.Verdict.{Hits, IsAllowed, IsRuleAt, IsVerdict}
use Rattle.rule_globs.specs.laws.PlainLaws.{allowed_by_hits}
use Rattle.rule_influence.specs.Influence.{HitsWithout, IsAllowedWithout, IsIdle}
use Rattle.rule_influence.specs.laws.HitLaws.{absent_idle}

module _ (rules : List RuleValue) (k : ℕ) (ge : 1 ≤ k) where
  abbrev cut : List RuleValue
  cut = take (k - 1) rules ++ drop k rules

  module _ (le : k ≤ length rules) where
    front : length (take (k - 1) rules) ≡ k - 1
    front = length-take-le (k - 1) rules (omega (arith, le))

    one_less : length cut + 1 ≡ length rules
    one_less =
        let e = length-append (take (k - 1) rules) (drop k rules) in
        let d = length-drop k rules in
        omega (arith, e, d, front, ge, le)

    before : (i : ℕ) (rule : RuleValue) → i < k - 1 → get_or cut i rule ≡ get_or rules i rule
    before i rule lt =
        get_or_append_left (take (k - 1) rules) (drop k rules) rule i (omega (arith, lt, front)) ∙ get_or-take (k - 1) rules i rule lt

    from : (i : ℕ) (rule : RuleValue) → k - 1 ≤ i → get_or cut i rule ≡ get_or rules (i + 1) rule
    from i rule h =
        let e : k + (i - (k - 1)) ≡ i + 1 = omega (arith, h, ge) in
        get_or-append_right (take (k - 1) rules) (drop k rules) (k - 1) i rule front h
        ∙ get_or-drop k rules (i - (k - 1)) rule ∙ ap (λ z. get_or rules z rule) e

    to_cut : (n : ℕ) (rule : RuleValue) → IsRuleAt rules n rule → n ≢ k → (m : ℕ) × IsRuleAt cut m rule
    to_cut n rule at ne = ⊎_elim
        (λ lt. (n, (at.0, omega (arith, lt, le, one_less), at.2 ∙ sym (before (n - 1) rule (omega (arith, lt, at.0))))))
        (λ h.
        let gt : k < n = omega (arith, h, ne) in
        let e : n - 1 ≡ n - 1 - 1 + 1 = omega (arith, gt, ge) in (
          n - 1,
          (
            omega (arith, gt, ge),
            omega (arith, at.1, one_less),
            at.2 ∙ ap (λ z. get_or rules z rule) e ∙ sym (from (n - 1 - 1) rule (omega (arith, gt))),
          ),
        ))
        (cases_lt n k)

    from_cut : (m : ℕ) (rule : RuleValue) → IsRuleAt cut m rule → (n : ℕ) × IsRuleAt rules n rule × (n ≢ k)
    from_cut m rule at = ⊎_elim
        (λ lt. (
          m,
          (at.0, omega (arith, lt, le), at.2 ∙ before (m - 1) rule (omega (arith, lt, at.0))),
          λ e. omega (arith, lt, e),
        ))
        (λ h.
        let e : m - 1 + 1 ≡ m + 1 - 1 = omega (arith, at.0) in (
          m + 1,
          (omega arith, omega (arith, at.1, one_less), at.2 ∙ from (m - 1) rule (omega (arith, h)) ∙ ap (λ z. get_or rules z rule) e),
          λ same. omega (arith, same, h),
        ))
        (cases_lt m k)

    hits_cut : (kind : RuleKind) (p : Permission) (name : List ℕ) (n : ℕ) → HitsWithout rules k kind p name n →
        (m : ℕ) × Hits cut kind p name m
    hits_cut kind p name n h =
        let there = to_cut n h.0.0 h.0.1 h.1 in
        (there.0, (h.0.0, there.1, h.0.2, h.0.3, h.0.4))

    hits_from_cut : (kind : RuleKind) (p : Permission) (name : List ℕ) (m : ℕ) → Hits cut kind p name m →
        (n : ℕ) × HitsWithout rules k kind p name n
    hits_from_cut kind p name m h =
        let there = from_cut m h.0 h.1 in
        (there.0, ((h.0, there.1, h.2, h.3, h.4), there.2))

    pub cut_allows : (p : Permission) (name : List ℕ) → IsAllowedWithout rules k name p ↔ IsAllowed cut name p
    cut_allows p name = (
      λ w. (allowed_by_hits cut name p).1 (
        λ m h. let back = hits_from_cut Deny p name m h in w.0 back.0 back.1,
        hits_cut Allow p name w.1.0 w.1.1,
      ),
      λ a. let by = (allowed_by_hits cut name p).0 a in (
        λ n h. let there = hits_cut Deny p name n h in by.0 there.0 there.1,
        hits_from_cut Allow p name by.1.0 by.1.1,
      ),
    )

-- past the list nothing is left out
whole : (rules : List RuleValue) (k : ℕ) → length rules < k → take (k - 1) rules ++ drop k rules ≡ rules
whole rules k past =
    ap (λ z. take (k - 1) rules ++ z) (drop_all k rules (omega (arith, past))) ∙ append-nil (take (k - 1) rules)
    ∙ take_all (k - 1) rules (omega (arith, past))

pub left_out_allows : (rules : List RuleValue) (k : ℕ) (p : Permission) (name : List ℕ) → 1 ≤ k →
    IsAllowedWithout rules k name p ↔ IsAllowed (take (k - 1) rules ++ drop k rules) name p
left_out_allows rules k p name ge = ⊎_elim
    (λ past. subst (λ (z : List RuleValue). IsAllowedWithout rules k name p ↔ IsAllowed z name p) (sym (whole rules k past))
    (let same = absent_idle rules p name k (λ n least le e. omega (arith, past, le, e)) in (same.1, same.0)))
    (λ le. cut_allows rules k ge le p name)
    (cases_lt (length rules) k)

-- what is asked is allowed exactly if each permission of it is
each_allowed : (rules : List RuleValue) (name : List ℕ) (ask : Perms) →
    IsVerdict rules name ask Allowed ↔ ((p : Permission) → IsTrue (has ask p) → IsAllowed rules name p)
each_allowed rules name ask = (
  λ v p asked. (
    λ n d. v.0 n (d.0, subst (λ q. IsTrue (has ask q)) (sym (only_one p d.0 d.1)) asked, d.2),
    λ q m. v.1 q (subst (λ z. IsTrue (has ask z)) (sym (only_one p q m.0)) asked, m.1),
  ),
  λ h. (
    λ n d. (h d.0 d.1).0 n (d.0, has-only d.0, d.2),
    λ q m. (h q m.0).1 q (has-only q, m.1),
  ),
)

pub left_out_verdict : (rules : List RuleValue) (k : ℕ) → 1 ≤ k → ((p : Permission) → IsIdle rules k p) →
    (name : List ℕ) (ask : Perms) → IsName name →
    IsVerdict rules name ask Allowed ↔ IsVerdict (take (k - 1) rules ++ drop k rules) name ask Allowed
left_out_verdict rules k ge idle name ask is = (
  λ v. (each_allowed (take (k - 1) rules ++ drop k rules) name ask).1 (λ p asked.
      (left_out_allows rules k p name ge).0 ((idle p name is).0 ((each_allowed rules name ask).0 v p asked))),
  λ v. (each_allowed rules name ask).1 (λ p asked.
      (idle p name is).1 ((left_out_allows rules k p name ge).1
      ((each_allowed (take (k - 1) rules ++ drop k rules) name ask).0 v p asked))),
)
