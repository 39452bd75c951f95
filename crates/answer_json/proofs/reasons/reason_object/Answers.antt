use Rattle.std.proofs.Common.{ap, ◌∙◌}
use Rattle.std.proofs.lemmas.Result.{IfOk-weaker}
use Rattle.rule_profile.specs.Profile.{profile_value}
use Rattle.rule_profile.specs.RuleSpans.{profile_spans}
use Rattle.serde_json.specs.Written.{has_float}
use Rattle.answer_json.specs.laws.NoFloats.{no_float_in_reason}
use Rattle.answer_json.proofs.reasons.reason_object.Goals as goal

pub returns-clause-integers : goal.returns-clause-integers
returns-clause-integers c =
    let none = no_float_in_reason c.args.text.now (profile_value c.args.profile.now).rules (profile_spans c.args.profile.now)
    c.args.permission c.reason_of-reason.result in
    IfOk-weaker c.object_of_reason.result _ _ (λ _ h. ap has_float h ∙ none) c.object_of_reason.ensures
