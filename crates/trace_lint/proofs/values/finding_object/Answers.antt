use Rattle.std.proofs.Common.{◌∙◌, ap}
use Rattle.rule_profile.specs.Profile.{profile_value}
use Rattle.rule_profile.specs.RuleSpans.{profile_spans}
use Rattle.serde_json.specs.View.{view}
use Rattle.serde_json.specs.Written.{has_float}
use Rattle.trace_lint.proofs.FloatLaws.{no_float_in_letter, no_float_in_parts, no_float_in_rules}
use Rattle.trace_lint.proofs.values.finding_object.Goals as goal

pub returns-in-Ok-clause-integers : goal.returns-in-Ok-clause-integers
returns-in-Ok-clause-integers c =
    ap has_float c.in-Ok.ensures
    ∙ no_float_in_parts c.number_of-also_idle.result c.finding_word-word.result.now (view c.in_ok-letter.letter) (view c.in_ok-rule.rule)
    (view c.in_ok-stand_ins.stand_ins)
    (ap has_float c.in_ok-letter.ensures ∙ no_float_in_letter c.args.finding.part.letter)
    c.in_ok-rule.ensures.integers
    (ap has_float c.in_ok-stand_ins.ensures ∙ no_float_in_rules c.args.linted.now.text.now
    (profile_value c.args.linted.now.profile.now).rules (profile_spans c.args.linted.now.profile.now) c.args.finding.stand_ins.now)
