-- What the rule allows is a hit of it, and there is one or there is none.
use Rattle.std.proofs.Common.{◌≡◌, ◌≢◌, ◌↔◌, ◌-◌, ⊎_elim, ℕ, List, [], ◌∷◌, Bool, true, false, true≢false, IsTrue}
use Rattle.std.proofs.Common.{slice_index_or, refl, sym, ap, ◌∙◌, subst, arith}
use Rattle.std.proofs.lemmas.Bool.{cases_Bool}
use Rattle.names.specs.declared.kind.RuleKind.{RuleKind}
use Rattle.names.specs.declared.kind.RuleKind.TheVariants.{Allow, Deny}
use Rattle.names.specs.declared.permissions.Perms.{Perms}
use Rattle.names.specs.declared.verdict.Verdict.TheVariants.{Allowed}
use Rattle.rule_globs.specs.Glob.{Glob, Takes}
use Rattle.rule_globs.specs.PlainVerdict.{takes}
use Rattle.rule_globs.specs.Rules.{RuleValue, pattern}
use Rattle.rule_globs.specs.Verdict.{IsRuleAt, IsVerdict}
use Rattle.profile_questions.specs.Questions.{IsPatternRule}
use Rattle.profile_questions.proofs.laws.pattern_rules_allow_what_they_take.Goals as goal

abbrev allows : RuleKind → Bool
allows Allow = true
allows Deny = false

not_denied : Allow ≢ Deny
not_denied e = true≢false (ap allows e)

the_rule : (rule : RuleValue) (n : ℕ) (other : RuleValue) → IsRuleAt (rule ∷ []) n other → other ≡ rule
the_rule rule n other at =
    let e : n - 1 ≡ 0 = omega (arith, at.0, at.1) in at.2 ∙ ap (λ k. slice_index_or (rule ∷ []) k other) e

module _ (by_cuts : (g : Glob) (bytes : List ℕ) → IsTrue (takes g bytes) ↔ Takes g bytes) (rule : RuleValue) (ask : Perms)
    (name : List ℕ) (is : IsPatternRule rule ask) where
  allowed_takes : IsVerdict (rule ∷ []) name ask Allowed → Takes (pattern rule) name
  allowed_takes v = ⊎_elim
      (λ taken. (by_cuts (pattern rule) name).0 taken)
      (λ not_taken. absurd (v.1 is.asked.0 (
        is.asked.1,
        λ n hit.
            let takes_it = subst (λ (r : RuleValue). Takes (pattern r) name) (the_rule rule n hit.0 hit.1) hit.4 in
            true≢false (sym ((by_cuts (pattern rule) name).1 takes_it) ∙ not_taken),
      )))
      (cases_Bool (takes (pattern rule) name))

  takes_allowed : Takes (pattern rule) name → IsVerdict (rule ∷ []) name ask Allowed
  takes_allowed takes_it = (
    λ n denied.
        let hit = denied.2 in
        let e = ap (λ (r : RuleValue). r.kind) (the_rule rule n hit.0 hit.1) in
        not_denied (sym is.allows ∙ sym e ∙ hit.2),
    λ p missing. missing.1 1 (rule, (omega arith, omega arith, refl), is.allows, is.holds_all p missing.0, takes_it),
  )

pub returns : goal.returns
returns c = λ rule ask name is. (
  allowed_takes c.takes_by_cuts.ensures rule ask name is,
  takes_allowed c.takes_by_cuts.ensures rule ask name is,
)
