use Rattle.std.proofs.Common.{◌∙◌, ap, sym}
use Rattle.std.specs.Prelude.{option_map}
use Rattle.std.specs.List.{list_any}
use Rattle.rule_profile.specs.Profile.{rule_value}
use Rattle.rule_profile.specs.Readable.{is_rule}
use Rattle.trace_audit.specs.Answers.{is_control, rule_of}
use Rattle.trace_audit.proofs.Chosen.{written}
use Rattle.trace_audit.proofs.added.added_rule.Goals as goal

pub returns-in_ok-write_rule-in-Some : goal.returns-in_ok-write_rule-in-Some
returns-in_ok-write_rule-in-Some c =
    written (rule_of c.args.name.now c.args.perms) (is_rule (rule_of c.args.name.now c.args.perms)) (list_any is_control c.args.name.now)
    (option_map rule_value c.in_ok-rule.field-0) (rule_value c.in-Some.rule) c.in_ok-write_rule-in-Some.field-0.items
    (sym c.has_control.ensures ∙ c.if-has_control.false) (ap (option_map rule_value) c.in-Some.is) c.in_ok-rule.ensures
    c.in_ok-write_rule-in-Some.ensures
