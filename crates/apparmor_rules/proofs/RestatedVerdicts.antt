-- Lists of rules, and what they are restated as.
use Rattle.std.proofs.Common.{◌≡◌, ◌≢◌, ◌↔◌, ℕ, Bool, true, false, List, refl, sym, ap, ◌∙◌, arith}
use Rattle.std.specs.List.{All, Any, Contains}
use Rattle.std.proofs.lemmas.List.Elements.{All-contains, All-weaker}
use Rattle.names.specs.declared.permissions.Permission.{Permission}
use Rattle.names.specs.declared.permissions.Perms.{Perms}
use Rattle.rule_globs.specs.Rules.{RuleValue}
use Rattle.rule_globs.specs.Verdict.{Hits, IsAllowed, IsVerdict}
use Rattle.apparmor_rules.specs.declared.effect.Extent.{Extent}
use Rattle.apparmor_rules.specs.declared.effect.Extent.TheVariants.{Exact, Narrower}
use Rattle.apparmor_rules.specs.declared.mode.Mode.{Mode}
use Rattle.apparmor_rules.specs.declared.mode.Mode.TheVariants.{Enforcing, Permissive, Unconfined}
use Rattle.apparmor_rules.specs.declared.subject.Subject.{Subject}
use Rattle.apparmor_rules.specs.Changes.{change, gained, lost, mode_change, AreExact, NoneIsNarrower, NoneIsWider}
use Rattle.apparmor_rules.specs.SecondJudge.{AllGranted, IsAllowedTo, IsDenied, IsGranted, IsGreater, IsOverridden, NothingDenied, SaysOf}
use Rattle.apparmor_rules.specs.Lists.{IsHit}
use Rattle.apparmor_rules.specs.Restatement.{restated, restated_all, shape_of}
use Rattle.apparmor_rules.specs.SubjectRules.{SubjectRule, Unknown}
use Rattle.apparmor_rules.proofs.ChangeKinds.{exact_gains_nothing, exact_is_narrower, exact_loses_nothing}
use Rattle.apparmor_rules.proofs.RestatedRules.{made, no_priority_left, same_kind, says_no_less, says_no_more}
use Rattle.apparmor_rules.proofs.SomeElements.{in_all_lists, in_list_of_some, some_from}
use Rattle.apparmor_rules.proofs.SomeHits.{allowed_by_hits, each_granted, hit_of_rule, none_denied, rule_of_hit}
use Rattle.names.specs.declared.kind.RuleKind.{RuleKind}
use Rattle.names.specs.declared.kind.RuleKind.TheVariants.{Allow, Deny}
use Rattle.names.specs.declared.verdict.Verdict.TheVariants.{Allowed}

-- 0 isn't greater than 0
none_is_greater : (below other_below : Bool) (size other : ℕ) → size ≡ 0 → other ≡ 0 → IsGreater below other_below size other → ⊥
none_is_greater true true size other e f h = omega (arith, e, f, h)
none_is_greater true false size other e f h = absurd h
none_is_greater false true size other e f h = omega (arith, e, f, h)
none_is_greater false false size other e f h = omega (arith, e, f, h)

module _ (unknown : Unknown) (chosen subject : Subject) (rules : List SubjectRule) (name : List ℕ) where
  -- no rule of the kind is gained, or lost
  abbrev NoneGained : RuleKind → Type 0
  NoneGained kind = All (λ rule. rule.kind ≡ kind → change chosen subject (shape_of rule) ≢ gained rule.kind) rules

  abbrev NoneLost : RuleKind → Type 0
  NoneLost kind = All (λ rule. rule.kind ≡ kind → change chosen subject (shape_of rule) ≢ lost rule.kind) rules

  -- some rule of the kind says so
  abbrev SomeSays : RuleKind → Permission → Type 0
  SomeSays kind p = Any (λ rule. (rule.kind ≡ kind) × SaysOf unknown subject p name rule) rules

  module _ (kind : RuleKind) (p : Permission) where
    no_more_hits : NoneGained kind → IsHit (restated_all chosen rules) kind p name → SomeSays kind p
    no_more_hits none_gained hit =
        let found = rule_of_hit (restated_all chosen rules) kind p name hit in
        let origin = in_list_of_some (restated chosen) rules found.0 found.1.0 in
        let kind_is : origin.0.kind ≡ kind = same_kind chosen subject origin.0 found.0 origin.2 ∙ found.1.1 in
        some_from (λ rule. (rule.kind ≡ kind) × SaysOf unknown subject p name rule) rules origin.0 origin.1 (
          kind_is,
          says_no_more chosen subject origin.0 unknown p name found.0
              (All-contains (λ rule. rule.kind ≡ kind → change chosen subject (shape_of rule) ≢ gained rule.kind) rules origin.0
              none_gained origin.1 kind_is)
              origin.2 found.1.2 found.1.3,
        )

    no_fewer_hits : NoneLost kind → SomeSays kind p → IsHit (restated_all chosen rules) kind p name
    no_fewer_hits none_lost some =
        let rule = some.1 in
        let here : Contains rules rule = (some.0, some.2, some.3) in
        let value = says_no_less chosen subject rule unknown p name
        (All-contains (λ rule. rule.kind ≡ kind → change chosen subject (shape_of rule) ≢ lost rule.kind) rules rule
        none_lost here some.4.0)
        some.4.1 in
        hit_of_rule (restated_all chosen rules) kind p name value.0
        (in_all_lists (restated chosen) rules rule value.0 here value.1, value.2 ∙ some.4.0, value.3, value.4)

  -- what is denied by the rules is denied by one
  denied_says : (p : Permission) → IsDenied unknown subject rules name p → SomeSays Deny p
  denied_says p denied = (denied.0, denied.1, denied.2, denied.3, (denied.4.0, denied.4.1))

  -- where no rule that allows is lost, none overrides one that is restated
  not_overridden : (p : Permission) → NoneLost Allow → (rule : SubjectRule) → rule.priority.size ≡ 0 →
      IsOverridden unknown subject rules name p rule → ⊥
  not_overridden p none_lost rule zero overridden =
      let other = overridden.1 in
      let here : Contains rules other = (overridden.0, overridden.2, overridden.3) in
      let value = says_no_less chosen subject other unknown p name
      (All-contains (λ rule. rule.kind ≡ Allow → change chosen subject (shape_of rule) ≢ lost rule.kind) rules other
      none_lost here overridden.4.0)
      overridden.4.1 in
      none_is_greater other.priority.below rule.priority.below other.priority.size rule.priority.size
      (no_priority_left chosen subject other (made chosen subject other value.0 value.1).0) zero overridden.4.2

  no_more_denied : (p : Permission) → NoneGained Deny → NoneLost Allow → IsHit (restated_all chosen rules) Deny p name →
      IsDenied unknown subject rules name p
  no_more_denied p none_gained none_lost hit =
      let found = rule_of_hit (restated_all chosen rules) Deny p name hit in
      let origin = in_list_of_some (restated chosen) rules found.0 found.1.0 in
      let kind_is : origin.0.kind ≡ Deny = same_kind chosen subject origin.0 found.0 origin.2 ∙ found.1.1 in
      let zero = no_priority_left chosen subject origin.0 (made chosen subject origin.0 found.0 origin.2).0 in
      some_from (λ rule. (rule.kind ≡ Deny) × SaysOf unknown subject p name rule × (IsOverridden unknown subject rules name p rule → ⊥))
      rules origin.0 origin.1 (
        kind_is,
        says_no_more chosen subject origin.0 unknown p name found.0
            (All-contains (λ rule. rule.kind ≡ Deny → change chosen subject (shape_of rule) ≢ gained rule.kind) rules origin.0
            none_gained origin.1 kind_is)
            origin.2 found.1.2 found.1.3,
        not_overridden p none_lost origin.0 zero,
      )

  -- ---- by the changes of all rules

  all_none : (kind : RuleKind) (told untold : RuleKind → Extent) → ((k : RuleKind) → k ≡ kind → told kind ≡ untold k) →
      All (λ rule. change chosen subject (shape_of rule) ≢ told kind) rules →
      All (λ rule. rule.kind ≡ kind → change chosen subject (shape_of rule) ≢ untold rule.kind) rules
  all_none kind told untold same all = All-weaker
      (λ rule. change chosen subject (shape_of rule) ≢ told kind)
      (λ rule. rule.kind ≡ kind → change chosen subject (shape_of rule) ≢ untold rule.kind)
      (λ rule none kind_is e. none (e ∙ sym (same rule.kind kind_is)))
      rules all

  not_gained : (kind : RuleKind) → All (λ rule. change chosen subject (shape_of rule) ≢ gained kind) rules → NoneGained kind
  not_gained kind = all_none kind gained gained (λ k e. ap gained (sym e))

  not_lost : (kind : RuleKind) → All (λ rule. change chosen subject (shape_of rule) ≢ lost kind) rules → NoneLost kind
  not_lost kind = all_none kind lost lost (λ k e. ap lost (sym e))

  exact_not_gained : (kind : RuleKind) → AreExact chosen subject rules → NoneGained kind
  exact_not_gained kind = All-weaker
      (λ rule. change chosen subject (shape_of rule) ≡ Exact)
      (λ rule. rule.kind ≡ kind → change chosen subject (shape_of rule) ≢ gained rule.kind)
      (λ rule is kind_is. exact_gains_nothing rule.kind (change chosen subject (shape_of rule)) is)
      rules

  exact_not_lost : (kind : RuleKind) → AreExact chosen subject rules → NoneLost kind
  exact_not_lost kind = All-weaker
      (λ rule. change chosen subject (shape_of rule) ≡ Exact)
      (λ rule. rule.kind ≡ kind → change chosen subject (shape_of rule) ≢ lost rule.kind)
      (λ rule is kind_is. exact_loses_nothing rule.kind (change chosen subject (shape_of rule)) is)
      rules

  -- ---- verdicts

  pub denied_by_exact : (p : Permission) → AreExact chosen subject rules →
      IsHit (restated_all chosen rules) Deny p name ↔ IsDenied unknown subject rules name p
  denied_by_exact p exact = (
    no_more_denied p (exact_not_gained Deny exact) (exact_not_lost Allow exact),
    λ denied. no_fewer_hits Deny p (exact_not_lost Deny exact) (denied_says p denied),
  )

  pub granted_by_exact : (p : Permission) → AreExact chosen subject rules →
      IsHit (restated_all chosen rules) Allow p name ↔ IsGranted unknown subject rules name p
  granted_by_exact p exact = (
    no_more_hits Allow p (exact_not_gained Allow exact),
    no_fewer_hits Allow p (exact_not_lost Allow exact),
  )

  pub denied_by_narrower : (p : Permission) → NoneIsWider chosen subject rules → IsDenied unknown subject rules name p →
      IsHit (restated_all chosen rules) Deny p name
  denied_by_narrower p none_wider denied = no_fewer_hits Deny p (not_lost Deny none_wider) (denied_says p denied)

  pub granted_by_narrower : (p : Permission) → NoneIsWider chosen subject rules → IsHit (restated_all chosen rules) Allow p name →
      IsGranted unknown subject rules name p
  granted_by_narrower p none_wider = no_more_hits Allow p (not_gained Allow none_wider)

  pub denied_by_wider : (p : Permission) → NoneIsNarrower chosen subject rules → IsHit (restated_all chosen rules) Deny p name →
      IsDenied unknown subject rules name p
  denied_by_wider p none_narrower = no_more_denied p (not_gained Deny none_narrower) (not_lost Allow none_narrower)

  pub granted_by_wider : (p : Permission) → NoneIsNarrower chosen subject rules → IsGranted unknown subject rules name p →
      IsHit (restated_all chosen rules) Allow p name
  granted_by_wider p none_narrower = no_fewer_hits Allow p (not_lost Allow none_narrower)

  module _ (mode : Mode) (ask : Perms) where
    allows_no_more : ((rules : List RuleValue) (name : List ℕ) (p : Permission) →
        IsAllowed rules name p ↔ (((n : ℕ) → Hits rules Deny p name n → ⊥) × ((n : ℕ) × Hits rules Allow p name n))) →
        NoneLost Deny → NoneGained Allow →
        IsVerdict (restated_all chosen rules) name ask Allowed → IsAllowedTo unknown mode subject rules name ask
    allows_no_more law none_lost none_gained allowed = in_mode mode
        (λ p asked denied. none_denied (restated_all chosen rules) name ask allowed p asked
        (no_fewer_hits Deny p none_lost (denied_says p denied)))
        (λ p asked. no_more_hits Allow p none_gained (each_granted (restated_all chosen rules) name ask law allowed p asked))
      where
        in_mode : (m : Mode) → NothingDenied unknown subject rules name ask → AllGranted unknown subject rules name ask →
            IsAllowedTo unknown m subject rules name ask
        in_mode Enforcing nothing_denied all_granted = (nothing_denied, all_granted)
        in_mode Permissive nothing_denied all_granted = nothing_denied
        in_mode Unconfined nothing_denied all_granted = tt

    allows_no_less : NoneGained Deny → NoneLost Allow → (mode_change mode ≡ Narrower → ⊥) →
        IsAllowedTo unknown mode subject rules name ask → IsVerdict (restated_all chosen rules) name ask Allowed
    allows_no_less none_gained none_lost enforcing allowed =
        let both = by_mode mode enforcing allowed in
        allowed_by_hits (restated_all chosen rules) name ask
        (λ p asked hit. both.0 p asked (no_more_denied p none_gained none_lost hit))
        (λ p asked. no_fewer_hits Allow p none_lost (both.1 p asked))
      where
        by_mode : (m : Mode) → (mode_change m ≡ Narrower → ⊥) → IsAllowedTo unknown m subject rules name ask →
            NothingDenied unknown subject rules name ask × AllGranted unknown subject rules name ask
        by_mode Enforcing isnt allowed = allowed
        by_mode Permissive isnt allowed = absurd (isnt refl)
        by_mode Unconfined isnt allowed = absurd (isnt refl)

    pub allowed_by_narrower : ((rules : List RuleValue) (name : List ℕ) (p : Permission) →
        IsAllowed rules name p ↔ (((n : ℕ) → Hits rules Deny p name n → ⊥) × ((n : ℕ) × Hits rules Allow p name n))) →
        NoneIsWider chosen subject rules →
        IsVerdict (restated_all chosen rules) name ask Allowed → IsAllowedTo unknown mode subject rules name ask
    allowed_by_narrower law none_wider = allows_no_more law (not_lost Deny none_wider) (not_gained Allow none_wider)

    pub allowed_by_wider : NoneIsNarrower chosen subject rules → mode_change mode ≢ Narrower →
        IsAllowedTo unknown mode subject rules name ask → IsVerdict (restated_all chosen rules) name ask Allowed
    allowed_by_wider none_narrower mode_isnt = allows_no_less (not_gained Deny none_narrower) (not_lost Allow none_narrower) mode_isnt

    pub allowed_by_exact : ((rules : List RuleValue) (name : List ℕ) (p : Permission) →
        IsAllowed rules name p ↔ (((n : ℕ) → Hits rules Deny p name n → ⊥) × ((n : ℕ) × Hits rules Allow p name n))) →
        AreExact chosen subject rules → mode_change mode ≡ Exact →
        IsVerdict (restated_all chosen rules) name ask Allowed ↔ IsAllowedTo unknown mode subject rules name ask
    allowed_by_exact law exact mode_is = (
      allows_no_more law (exact_not_lost Deny exact) (exact_not_gained Allow exact),
      allows_no_less (exact_not_gained Deny exact) (exact_not_lost Allow exact)
          (λ narrower. exact_is_narrower (sym mode_is ∙ narrower)),
    )
