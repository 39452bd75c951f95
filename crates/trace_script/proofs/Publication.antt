-- What is printed for a profile that was published, and the outcome of composing its line.
use Rattle.std.proofs.Common.{◌≡◌, ℕ, ◌+◌, Bool, false, List, [], ◌∷◌, ◌++◌, Option, Result, Ok, Err, Vec, Global, sym, ap, ◌∙◌}
use Rattle.std.proofs.Common.{length-append, codes, decimal}
use Rattle.std.proofs.lemmas.Bool.{cases_Bool}
use mathlib.Core.Logic.{⊎_elim}
use Rattle.glob_automaton.specs.Automata.{StateLimit, most_sets}
use Rattle.glob_automaton.specs.Sets.{AreMoreThan}
use Rattle.rule_profile.specs.Profile.{RuleValue, ProfileValue}
use Rattle.trace_script.specs.declared.stop.Stop.{Stop}
use Rattle.trace_script.specs.Engine.{IsComposed, IsText}
use Rattle.trace_report.specs.Output.{line}
use Rattle.mediation.specs.Deeds.{published_rules}
use Rattle.mediation.specs.History.{History, policy_version, with_deed}
use Rattle.trace_script.specs.RunOutput.{Printed, policy_printed, profile_printed}

is_not_over : (limit : StateLimit) (rules : List RuleValue) → ¬ (AreMoreThan most_sets rules) → limit.is_over rules ≡ false
is_not_over limit rules few = ⊎_elim (λ over. absurd (few ((limit.right rules).0 over))) (λ h. h) (cases_Bool (limit.is_over rules))

-- a line that was composed, or memory ran out
pub composed : (p : Printed) (history : History) (text : List ℕ) (result : Result (Vec ℕ Global) Stop) → line text ≡ line p.text →
    history ≡ p.history → IsText text result → IsComposed p history result
composed p history text (Ok bytes) same done is = (is ∙ same, done)
composed p history text (Err stop) same done is = is

-- a profile that was published
pub published_whole : (limit : StateLimit) (history after : History) (profile : ProfileValue) (version : ℕ) (text : List ℕ) →
    ¬ (AreMoreThan most_sets profile.rules)
    → after ≡ with_deed history (published_rules profile) → version ≡ policy_version after
    → text ≡ line (codes "policy " ++ profile.name ++ codes " version " ++ decimal version)
    → (text ≡ line (policy_printed limit history (Ok profile)).text) × (after ≡ (policy_printed limit history (Ok profile)).history)
published_whole limit history after profile version text few e v is =
    let fine = is_not_over limit profile.rules few in
    let counted : version ≡ policy_version history + 1 = v ∙ ap policy_version e ∙ length-append history.deeds
    (published_rules profile ∷ []) in (
      is ∙ ap (λ (n : ℕ). line (codes "policy " ++ profile.name ++ codes " version " ++ decimal n)) counted
          ∙ sym (ap (λ (b : Bool). line (profile_printed history profile b).text) fine),
      e ∙ sym (ap (λ (b : Bool). (profile_printed history profile b).history) fine),
    )
