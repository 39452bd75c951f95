use Rattle.std.proofs.Common.{◌≡◌, ◌∙◌, true, ap, rules, sym}
use Rattle.names.specs.declared.kind.RuleKind.TheVariants.{Allow}
use Rattle.names.specs.declared.permissions.Perms.{Perms}
use Rattle.rule_globs.specs.Tokens.{tokens_of}
use Rattle.rule_profile.specs.Profile.{RuleValue, rule_value}
use Rattle.trace_audit.proofs.Chosen.{are_letters, with_path, without_path}
use Rattle.trace_audit.proofs.added.rule_of.Goals as goal

pub returns-in-Some : goal.returns-in-Some
returns-in-Some c =
    let passed : c.are_rule_letters.result ≡ true = search rules in
    with_path c.args.name.now c.args.perms (tokens_of c.in_ok-items.items.items) c.in-Some.path c.in_ok-items.ensures.tokens
    (ap are_letters (sym c.addable-perms.ensures) ∙ sym c.are_rule_letters.ensures ∙ passed) (sym c.in-Some.is ∙ c.path_of.ensures)
    (rule_value c.new.result)
    (c.new.ensures.value ∙ ap (λ (s : Perms). record { kind = Allow; perms = s; items = c.in-Some.path }) c.addable-perms.ensures)

pub returns-in-None : goal.returns-in-None
returns-in-None c =
    let passed : c.are_rule_letters.result ≡ true = search rules in
    without_path c.args.name.now c.args.perms (tokens_of c.in_ok-items.items.items) c.in_ok-items.ensures.tokens
    (ap are_letters (sym c.addable-perms.ensures) ∙ sym c.are_rule_letters.ensures ∙ passed) (sym c.in-None.is ∙ c.path_of.ensures)
