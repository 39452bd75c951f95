-- Names with their causes are those of the questions: by first rules, and by pairs of reasons.
use Rattle.std.proofs.Common.{◌≡◌, ◌↔◌, ℕ, List, [], Option, Some, None, ap, ◌∙◌, subst, arith}
use Rattle.names.specs.Permissions.{only}
use Rattle.names.specs.declared.kind.RuleKind.{RuleKind}
use Rattle.names.specs.declared.permissions.Permission.{Permission}
use Rattle.names.specs.declared.permissions.Perms.{Perms}
use Rattle.names.specs.laws.PermissionSets.{has-only, only_one}
use Rattle.profile_questions.specs.Names.{ComparisonValue}
use Rattle.profile_questions.specs.declared.answer.Answer.TheVariants as answer
use Rattle.rule_explain.specs.Reasons.{IsReason, NoHit}
use Rattle.rule_explain.specs.declared.reason.Reason.{Reason}
use Rattle.rule_globs.specs.Rules.{RuleValue}
use Rattle.rule_globs.specs.Tokens.{Token}
use Rattle.rule_globs.specs.Verdict.{Hits}
use Rattle.question_answers.specs.Alone.{IsDifference, IsDifferenceBy}
use Rattle.question_answers.specs.Below.{IsLeastName}
use Rattle.question_answers.specs.Findings.{IsWanted, IsWantedBy}
use Rattle.question_answers.specs.LeastNames.{AreLeast, AreLeastNames}
use Rattle.question_answers.specs.declared.cause.Cause.{Cause}
use Rattle.question_answers.specs.declared.cause.Cause.TheVariants.{Allowed, Denied, NoRule}
use Rattle.question_answers.specs.declared.cause.Causes.{Causes}
use Rattle.question_answers.specs.declared.least.Wanted.{Wanted}
use Rattle.question_answers.specs.declared.quantifier.Quantifier.{Quantifier}
use Rattle.question_answers.specs.declared.quantifier.Quantifier.TheVariants.{Any, All}
use Rattle.question_answers.specs.declared.quantifier.Witnesses.TheVariants.{EachRule}
use Rattle.question_answers.specs.declared.side.Side.{Side}
use Rattle.question_answers.specs.declared.side.Side.TheVariants.{New, Old}
use Rattle.question_answers.specs.inner.Causes.{HasCauses, reason_of}
use Rattle.question_answers.specs.inner.Wants.{IsWantedOf, alone_by, wanted_by}
use Rattle.question_answers.proofs.CauseLaws.{back_and_there, cause_by}
use Rattle.question_answers.proofs.Passes.{same_names}

-- the least name with one property is that with another that the same names have
pub least_too : (Has Other : List ℕ → Type 0) → ((name : List ℕ) → Has name ↔ Other name) → (names : List (List ℕ)) →
    AreLeast Has names → AreLeast Other names
least_too Has Other same names are = (are.0, by are.0 are.1, are.2)
  where
    by : (found : Option (List ℕ)) → IsLeastName Has found → IsLeastName Other found
    by None h = λ name is. h name ((same name).1 is)
    by (Some name) h = ((same name).0 h.0, λ other is. h.1 other ((same other).1 is))

-- ---- `any` and `all`

abbrev pub asked : Quantifier → Perms → Wanted
asked q ask = record { first = wanted_by q ask; second = answer.Any }

module _ (ask : Perms) (path : List Token) (c : ComparisonValue) where
  pub wanted_so : (q : Quantifier) (name : List ℕ) → IsWantedOf (Some path) c (asked q ask) name ↔ IsWanted q c.first path ask name
  wanted_so (Any witnesses) name = (λ h. (h.below, h.first), λ h. record { below = h.0; first = h.1; second = tt })
  wanted_so All name = (λ h. (h.below, h.first), λ h. record { below = h.0; first = h.1; second = tt })

  abbrev Has : Causes → List ℕ → Type 0
  Has = HasCauses (Some path) c (asked (Any EachRule) ask) ask

  abbrev by_rule : ℕ → Causes
  by_rule n = record { first = Allowed n; second = NoRule }

  module _ (second : c.second ≡ []) where
    no_rule_hits : (kind : RuleKind) (p : Permission) (name : List ℕ) → NoHit c.second kind p name
    no_rule_hits kind p name n h =
        let hit : Hits [] kind p name n = subst (λ (rules : List RuleValue). Hits rules kind p name n) second h in
        omega (arith, hit.1.0, hit.1.1)

    rule_by : (n : ℕ) (name : List ℕ) → Has (by_rule n) name → IsWantedBy c.first path ask n name
    rule_by n name h = ((wanted_so (Any EachRule) name).0 h.0, (h.1.0, h.1.1, h.1.2.1))

    by_its_rule : (n : ℕ) (name : List ℕ) → IsWantedBy c.first path ask n name → Has (by_rule n) name
    by_its_rule n name h = (
      (wanted_so (Any EachRule) name).1 h.0,
      (
        h.1.0,
        h.1.1,
        (λ m hit. h.0.1.0 m (h.1.0, h.1.1, hit), h.1.2),
        (λ m. no_rule_hits _ h.1.0 name m, λ m. no_rule_hits _ h.1.0 name m),
      ),
    )

    -- the causes of a name that is allowed all that is asked are an allow rule and no other
    the_rule : (first other : Cause) (name : List ℕ) → Has (record { first = first; second = other }) name →
        (n : ℕ) × ((one : List ℕ) → Has (record { first = first; second = other }) one ↔ IsWantedBy c.first path ask n one)
    the_rule (Allowed n) NoRule name h = (n, λ one. (rule_by n one, by_its_rule n one))
    the_rule (Allowed n) (Allowed m) name h = absurd (no_rule_hits _ h.1.0 name m h.1.3.1.0)
    the_rule (Allowed n) (Denied m) name h = absurd (no_rule_hits _ h.1.0 name m h.1.3.0)
    the_rule (Denied n) other name h = absurd (h.0.first.0 n (h.1.0, h.1.1, h.1.2.0))
    the_rule NoRule other name h = absurd (h.0.first.1 h.1.0 (h.1.1, h.1.2.1))

    pub each_rule : (names : List (List ℕ)) → AreLeastNames Has names → AreLeastNames (IsWantedBy c.first path ask) names
    each_rule names are =
        same_names Has (IsWantedBy c.first path ask)
        (λ k name h. the_rule k.first k.second name h)
        (λ n name h. (by_rule n, λ one. (rule_by n one, by_its_rule n one)))
        names are

-- ---- what one profile alone allows

module _ (below : Option (List Token)) (c : ComparisonValue) (p : Permission) where
  pub wanted_alone : (side : Side) (name : List ℕ) →
      IsWantedOf below c (alone_by side (only p)) name ↔ IsDifference below c.first c.second p side name
  wanted_alone Old name = (
    λ h. (h.below, (h.first, h.second)),
    λ h. record { below = h.0; first = h.1.0; second = h.1.1 },
  )
  wanted_alone New name = (
    λ h. (h.below, (h.second, h.first)),
    λ h. record { below = h.0; first = h.1.1; second = h.1.0 },
  )

  module _ (side : Side) where
    abbrev HasAlone : Causes → List ℕ → Type 0
    HasAlone = HasCauses below c (alone_by side (only p)) (only p)

    abbrev reasons_of : Causes → Reason × Reason
    reasons_of k = (reason_of k.first, reason_of k.second)

    by_reasons : (k : Causes) (name : List ℕ) → HasAlone k name ↔ IsDifferenceBy below c.first c.second p side (reasons_of k) name
    by_reasons k name = (
      λ h. let e = only_one p h.1.0 h.1.1 in (
        (wanted_alone side name).0 h.0,
        subst (λ q. IsReason c.first name q (reason_of k.first)) e h.1.2,
        subst (λ q. IsReason c.second name q (reason_of k.second)) e h.1.3,
      ),
      λ h. ((wanted_alone side name).1 h.0, (p, has-only p, h.1, h.2)),
    )

    abbrev causes_by : Reason × Reason → Causes
    causes_by r = record { first = cause_by r.0; second = cause_by r.1 }

    back : (r : Reason × Reason) → reasons_of (causes_by r) ≡ r
    back r = ap (λ (a : Reason). (a, reason_of (cause_by r.1))) (back_and_there r.0)
        ∙ ap (λ (b : Reason). (r.0, b)) (back_and_there r.1)

    pub each_pair : (names : List (List ℕ)) → AreLeastNames HasAlone names →
        AreLeastNames (IsDifferenceBy below c.first c.second p side) names
    each_pair names are =
        same_names HasAlone (IsDifferenceBy below c.first c.second p side)
        (λ k name h. (reasons_of k, by_reasons k))
        (λ r name h. (
          causes_by r,
          subst (λ (z : Reason × Reason). (one : List ℕ) → HasAlone (causes_by r) one
              ↔ IsDifferenceBy below c.first c.second p side z one) (back r) (by_reasons (causes_by r)),
        ))
        names are
