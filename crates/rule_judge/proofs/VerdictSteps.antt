-- The verdict, one rule after another.
use Rattle.std.proofs.Common.{◌≡◌, ℕ, ◌+◌, ◌-◌, ◌<◌, ◌≤◌, Bool, not, ◌&&◌, ◌⊎◌, ◌↔◌, inl, inr, ⊎_elim, List, map, IsTrue, length, get_or}
use Rattle.std.proofs.Common.{sym, ap, ◌∙◌, subst, arith, true≢false}
use Rattle.std.proofs.lemmas.List.{get_or_default, get_or-map, length-map}
use Rattle.std.proofs.lemmas.Bool.{and_parts, and_from, cases_lt, cases_Bool, not-true, not_from_false}
use Rattle.names.specs.declared.permissions.Permission.{Permission}
use Rattle.names.specs.declared.permissions.Perms.{Perms}
use Rattle.names.specs.Permissions.{has, set_of}
use Rattle.rule_globs.specs.Glob.{Takes}
use Rattle.rule_profile.specs.Profile.{RuleValue, pattern, rule_value}
use Rattle.rule_globs.specs.Rules.{holds}
use Rattle.rule_globs.specs.Verdict.{IsRuleAt, Hits, Denies, IsLeast, IsMissing}
use Rattle.rule_globs.specs.inner.RuleHits.{HitsSome}
use Rattle.rule_profile.specs.declared.profile.Rule.{Rule}
use Rattle.names.specs.declared.kind.RuleKind.{RuleKind}
use Rattle.names.specs.declared.kind.RuleKind.TheVariants.{Allow, Deny}
use Rattle.names.specs.laws.PermissionSets.{has-set_of}

-- what is missing by the rules up to this number
abbrev pub IsMissingAfter : List RuleValue → List ℕ → Perms → ℕ → Permission → Type 0
IsMissingAfter rules name ask i p = IsTrue (has ask p) × ((n : ℕ) → n ≤ i → Hits rules Allow p name n → ⊥)

same_rule : (rules : List RuleValue) (n : ℕ) (r s : RuleValue) → IsRuleAt rules n r → IsRuleAt rules n s → r ≡ s
same_rule rules n r s f g = f.2 ∙ get_or_default rules (n - 1) r s (omega (arith, f.0, f.1)) ∙ sym g.2

-- the rule at the loop's index
pub rule_at : (rules : List Rule) (values : List RuleValue) (i : ℕ) (r : Rule) → i < length rules → r ≡ get_or rules i r →
    map rule_value rules ≡ values → IsRuleAt values (i + 1) (rule_value r)
rule_at rules values i r lt e same =
    let back : i ≡ i + 1 - 1 = omega arith in
    let long : length values ≡ length rules = ap length (sym same) ∙ length-map rules rule_value in
    let here : rule_value r ≡ get_or (map rule_value rules) i (rule_value r) =
    ap rule_value e ∙ sym (get_or-map rule_value rules i r (rule_value r) lt) in (
      omega arith,
      omega (arith, long),
      here ∙ ap (λ z. get_or z i (rule_value r)) same ∙ ap (λ z. get_or values z (rule_value r)) back,
    )

-- a hit of that rule is one of its own permissions, asked or not
hit_of : (rules : List RuleValue) (kind : RuleKind) (p : Permission) (name : List ℕ) (n : ℕ) (r : RuleValue) → IsRuleAt rules n r →
    Hits rules kind p name n → (r.kind ≡ kind) × IsTrue (holds r p) × Takes (pattern r) name
hit_of rules kind p name n r at h =
    let P : RuleValue → Type 0 = λ z. (z.kind ≡ kind) × IsTrue (holds z p) × Takes (pattern z) name in
    subst P (same_rule rules n h.0 r h.1 at) (h.2, h.3, h.4)

module _ (rules : List RuleValue) (name : List ℕ) (ask : Perms) where
  -- no rule up to this number denies
  abbrev pub IsQuiet : ℕ → Type 0
  IsQuiet i = (n : ℕ) → n ≤ i → Denies rules name ask n → ⊥

  upto : (i n : ℕ) → n ≤ i + 1 → (n ≤ i) ⊎ (n ≡ i + 1)
  upto i n le = ⊎_elim (λ h. inl (omega arith)) (λ h. inr (omega arith)) (cases_lt n (i + 1))

  pub quiet-skip : (i : ℕ) (r : RuleValue) → IsRuleAt rules (i + 1) r → (HitsSome r name ask → ⊥) → IsQuiet i → IsQuiet (i + 1)
  quiet-skip i r at none quiet n le d = ⊎_elim
      (λ h. quiet n h d)
      (λ h. let hit = hit_of rules Deny d.0 name (i + 1) r at (subst (λ z. Hits rules Deny d.0 name z) h d.2) in
      none ((d.0, d.1, hit.1), hit.2))
      (upto i n le)

  pub quiet-allow : (i : ℕ) (r : RuleValue) → IsRuleAt rules (i + 1) r → r.kind ≡ Allow → IsQuiet i → IsQuiet (i + 1)
  quiet-allow i r at allow quiet n le d = ⊎_elim
      (λ h. quiet n h d)
      (λ h. let hit = hit_of rules Deny d.0 name (i + 1) r at (subst (λ z. Hits rules Deny d.0 name z) h d.2) in
      let never : ⊥ = cc (allow, hit.0) in never)
      (upto i n le)

  pub missing-skip : (i : ℕ) (r : RuleValue) (s t : Perms) (p : Permission) → IsRuleAt rules (i + 1) r → (HitsSome r name ask → ⊥) →
      t ≡ s → (IsTrue (has s p) ↔ IsMissingAfter rules name ask i p) → IsTrue (has t p) ↔ IsMissingAfter rules name ask (i + 1) p
  missing-skip i r s t p at none same now = (
    λ h. let w = now.0 (subst (λ z. IsTrue (has z p)) same h) in (
      w.0,
      λ n le hit. ⊎_elim
          (λ t. w.1 n t hit)
          (λ t. let own = hit_of rules Allow p name (i + 1) r at (subst (λ z. Hits rules Allow p name z) t hit) in
          none ((p, w.0, own.1), own.2))
          (upto i n le),
    ),
    λ h. subst (λ z. IsTrue (has z p)) (sym same) (now.1 (h.0, λ n le hit. h.1 n (omega arith) hit)),
  )

  pub missing-allow : (i : ℕ) (r : RuleValue) (s t : Perms) (p : Permission) → IsRuleAt rules (i + 1) r → r.kind ≡ Allow →
      HitsSome r name ask → t ≡ set_of (λ q. has s q && not (holds r q)) → (IsTrue (has s p) ↔ IsMissingAfter rules name ask i p) →
      IsTrue (has t p) ↔ IsMissingAfter rules name ask (i + 1) p
  missing-allow i r s t p at allow some less now =
      let is : has t p ≡ (has s p && not (holds r p)) = ap (λ z. has z p) less
      ∙ has-set_of (λ q. has s q && not (holds r q)) p in (
        λ h. let both = and_parts (has s p) (not (holds r p)) (sym is ∙ h) in let w = now.0 both.0 in (
          w.0,
          λ n le hit. ⊎_elim
              (λ t. w.1 n t hit)
              (λ t. let own = hit_of rules Allow p name (i + 1) r at (subst (λ z. Hits rules Allow p name z) t hit) in
              true≢false (sym own.1 ∙ not-true (holds r p) both.1))
              (upto i n le),
        ),
        λ h. is ∙ and_from (has s p) (not (holds r p))
            (now.1 (h.0, λ n le hit. h.1 n (omega arith) hit))
            (⊎_elim
            (λ t. absurd (h.1 (i + 1) (omega arith) (r, at, allow, t, some.1)))
            (λ t. not_from_false (holds r p) t)
            (cases_Bool (holds r p))),
      )

  pub denied : (i : ℕ) (r : RuleValue) → IsRuleAt rules (i + 1) r → r.kind ≡ Deny → HitsSome r name ask → IsQuiet i →
      IsLeast (Denies rules name ask) (i + 1)
  denied i r at deny some quiet = (
    (some.0.0, some.0.1, (r, at, deny, some.0.2, some.1)),
    λ m d. ⊎_elim
        (λ h. absurd (quiet m (omega arith) d))
        (λ h. h)
        (cases_lt m (i + 1)),
  )

  pub at_end-quiet : (i : ℕ) → length rules ≤ i → IsQuiet i → (n : ℕ) → Denies rules name ask n → ⊥
  at_end-quiet i le quiet n d = quiet n (omega (arith, d.2.1.1)) d

  pub at_end-missing : (i : ℕ) (p : Permission) (m : Bool) → length rules ≤ i →
      (IsTrue m ↔ IsMissingAfter rules name ask i p) → IsTrue m ↔ IsMissing rules name ask p
  at_end-missing i p m le now = (
    λ h. let w = now.0 h in (w.0, λ n hit. w.1 n (omega (arith, hit.1.1)) hit),
    λ h. now.1 (h.0, λ n le2 hit. h.1 n hit),
  )
