use Rattle.std.proofs.Common.{◌≡◌, ◌++◌, List, ℕ, rules, sym, ap, ◌∙◌}
use Rattle.std.specs.List.{list_any}
use Rattle.rule_profile.specs.Readable.{is_rule}
use Rattle.rule_reader.specs.ReadText.{rule_at}
use Rattle.rule_writer.specs.Canonical.{rule_text}
use Rattle.trace_audit.specs.Answers.{is_control, rule_of}
use Rattle.trace_audit.proofs.PlainRules.{passed, takes_it, takes_only}
use Rattle.trace_audit.proofs.laws.added_rules_take_their_name.Goals as goal

pub returns-clause-read : goal.returns-clause-read
returns-clause-read c name perms text more e =
    let tests = passed (is_rule (rule_of name perms)) (list_any is_control name) (rule_text (rule_of name perms)) text e in
    ap (λ (t : List ℕ). rule_at (t ++ more)) (sym tests.2)
    ∙ c.rule_texts_are_read.ensures.again (rule_of name perms) more tests.0

pub returns-clause-only : goal.returns-clause-only
returns-clause-only c name perms text other e =
    let tests = passed (is_rule (rule_of name perms)) (list_any is_control name) (rule_text (rule_of name perms)) text e in
    (takes_only name other, λ same. rw same (takes_it name tests.1))
