-- The rules before the index.
use Rattle.std.proofs.Common.{◌≡◌, map, take}
use Rattle.answer_json.specs.Values.{rule_object}
use Rattle.rule_profile.specs.Profile.{profile_value}
use Rattle.rule_profile.specs.RuleSpans.{profile_spans}
use Rattle.serde_json.specs.View.{view}
use Rattle.trace_lint.proofs.values.rules_array.Given as goal

abbrev pub invariant-loop-number : goal.invariant-loop-number
invariant-loop-number l =
    map view l.rules.items ≡ map (rule_object l.linted.text.now (profile_value l.linted.profile.now).rules
    (profile_spans l.linted.profile.now)) (take l.number-index l.numbers)
