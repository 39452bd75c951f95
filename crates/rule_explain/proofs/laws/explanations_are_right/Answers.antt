use Rattle.std.specs.Prelude.{◌&&◌, length, nat_le}
use Rattle.std.specs.List.{list_all}
use Rattle.std.proofs.lemmas.Bool.{and_parts}
use Rattle.rule_profile.specs.Limits.{most_rules}
use Rattle.rule_profile.specs.Readable.{is_name, is_rule}
use Rattle.rule_explain.specs.Reasons.{reason}
use Rattle.rule_explain.proofs.ToldLaws.{rightly_told}
use Rattle.rule_explain.proofs.laws.explanations_are_right.Goals as goal

pub returns : goal.returns
returns c text profile name p e =
    let valid = c.profiles_can_be_read.ensures.read text profile ((c.one_outcome.ensures.read_as_outcome text profile).1 e) in
    let rules_valid = (and_parts (is_name profile.name && nat_le (length profile.rules) most_rules)
    (list_all is_rule profile.rules) valid).1 in
    rightly_told c.rule_texts_are_read.ensures.again text profile.rules name p (reason profile.rules name p)
    (c.spans_are_read_again.ensures text profile e) rules_valid (c.reasons_are_right.ensures.some profile.rules name p)
