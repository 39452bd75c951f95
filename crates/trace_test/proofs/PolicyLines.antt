-- The answer to a policy, and the rules that are kept then.
use Rattle.std.proofs.Common.{◌≡◌, ℕ, ◌+◌, Bool, true, false, List, [], ◌∷◌, ◌++◌, Option, Some, None, Result, Ok, sym, ap}
use Rattle.std.proofs.Common.{◌∙◌, refl, length-append, codes, decimal}
use Rattle.std.proofs.lemmas.Bool.{cases_Bool}
use Rattle.std.specs.Prelude.{if◌then◌else◌}
use mathlib.Core.Logic.{⊎_elim}
use Rattle.glob_automaton.specs.Automata.{StateLimit, most_sets}
use Rattle.glob_automaton.specs.Sets.{AreMoreThan}
use Rattle.mediation.specs.Deeds.{published_rules}
use Rattle.mediation.specs.History.{History, policy_version, with_deed}
use Rattle.rule_profile.specs.Profile.{ProfileValue, RuleValue}
use Rattle.trace_report.specs.Output.{line}
use Rattle.trace_script.specs.RunOutput.{policy_printed, profile_printed}
use Rattle.trace_test.specs.Questions.{RulesByName}
use Rattle.trace_test.specs.inner.Published.{with_outcome, with_profile, with_rules}

pub is_not_over : (limit : StateLimit) (rules : List RuleValue) → ¬ (AreMoreThan most_sets rules) → limit.is_over rules ≡ false
is_not_over limit rules few = ⊎_elim (λ over. absurd (few ((limit.right rules).0 over))) (λ h. h) (cases_Bool (limit.is_over rules))

-- a profile that was published
pub published_whole : (limit : StateLimit) (history after : History) (profile : ProfileValue) (version : ℕ) (text : List ℕ) →
    ¬ (AreMoreThan most_sets profile.rules)
    → after ≡ with_deed history (published_rules profile) → version ≡ policy_version after
    → text ≡ line (codes "policy " ++ profile.name ++ codes " version " ++ decimal version)
    → (text ≡ line (policy_printed limit history (Ok profile)).text) × (after ≡ (policy_printed limit history (Ok profile)).history)
published_whole limit history after profile version text few e v is =
    let fine = is_not_over limit profile.rules few in
    let counted : version ≡ policy_version history + 1 = v ∙ ap policy_version e ∙ length-append history.deeds
    (published_rules profile ∷ []) in (
      is ∙ ap (λ (n : ℕ). line (codes "policy " ++ profile.name ++ codes " version " ++ decimal n)) counted
          ∙ sym (ap (λ (b : Bool). line (profile_printed history profile b).text) fine),
      e ∙ sym (ap (λ (b : Bool). (profile_printed history profile b).history) fine),
    )

-- its rules are kept
pub kept_whole : (limit : StateLimit) (profile : ProfileValue) (published : RulesByName) → ¬ (AreMoreThan most_sets profile.rules) →
    with_rules published profile.name profile.rules ≡ with_outcome limit (Ok profile) published
kept_whole limit profile published few = sym (ap (with_profile published profile) (is_not_over limit profile.rules few))
