-- The pattern is refused, or both together are, or something is found.
use Rattle.std.proofs.Common.{◌∙◌, List, ap, refl, subst, sym}
use Rattle.glob_automaton.specs.Automata.{most_sets}
use Rattle.glob_automaton.specs.Sets.{AreMoreThan}
use Rattle.rule_globs.specs.Rules.{ProfileValue, RuleValue}
use Rattle.rule_profile.specs.Profile.{profile_value}
use Rattle.rule_profile.specs.RuleSpans.{profile_spans}
use Rattle.trace_report.specs.Output.{finding}
use Rattle.trace_questions.specs.Search.{IsSearchOf}
use Rattle.trace_questions.proofs.Refused.{passed_on}
use Rattle.trace_questions.proofs.Searches.{answerable, found_by, large_both, large_pattern}
use Rattle.trace_questions.proofs.search_command.answer_by.Goals as goal

pub returns-in_err-names : goal.returns-in_err-names
returns-in_err-names c path of spans few =
    let rules = c.args.rules.now.rules in
    let text = c.args.text.now in
    let f = c.in_err-names.field-0.0 in
    passed_on (IsSearchOf c.args.format c.args.quantifier c.args.asked.ask path text rules) c.from_residual-in_err-names.result f
    c.from_residual-in_err-names.ensures.1
    (large_pattern c.args.format c.args.quantifier c.args.asked.ask path text rules (profile_value c.args.asked.pattern).rules f
    (ap (λ (p : ProfileValue). p.rules) of) c.in_err-names.ensures.err)

pub returns-in_err-comparison : goal.returns-in_err-comparison
returns-in_err-comparison c path of spans few =
    let rules = c.args.rules.now.rules in
    let text = c.args.text.now in
    let f = c.in_err-comparison.field-0.0 in
    passed_on (IsSearchOf c.args.format c.args.quantifier c.args.asked.ask path text rules) c.from_residual-in_err-comparison.result f
    c.from_residual-in_err-comparison.ensures.1
    (large_both c.args.format c.args.quantifier c.args.asked.ask path text rules c.in_ok-nothing.nothing.rules c.in_ok-names.names.rules f
    c.in_ok-nothing.ensures.rules (c.in_ok-names.ensures.rules ∙ ap (λ (p : ProfileValue). p.rules) of) c.in_err-comparison.ensures.err)

pub returns-in-Ok : goal.returns-in-Ok
returns-in-Ok c path of spans few =
    let rules = c.args.rules.now.rules in
    let text = c.args.text.now in
    let first = c.in_ok-comparison.ensures.first in
    let second = c.in_ok-nothing.ensures.rules in
    let third = c.in_ok-names.ensures.rules ∙ ap (λ (p : ProfileValue). p.rules) of in
    let h = c.in-Ok.ensures path (c.in_ok-comparison.ensures.second ∙ second) (c.in_ok-comparison.ensures.third ∙ third) in
    let small = subst (λ (them : List RuleValue). ¬ (AreMoreThan most_sets them)) (sym c.in_ok-names.ensures.rules)
    c.in_ok-names.ensures.few in
    found_by c.args.format c.args.quantifier c.args.asked.ask path text rules c.in_ok-comparison.comparison.first
    (profile_value c.profile.result.now).rules (profile_spans c.profile.result.now) h.0
    (finding c.in-Ok.answer.text.items c.in-Ok.answer.found)
    (answerable c.args.format c.args.quantifier c.args.asked.ask path text rules rules c.in_ok-nothing.nothing.rules
    c.in_ok-names.names.rules refl second third few c.in_ok-nothing.ensures.few small c.in_ok-comparison.ensures.few)
    first c.profile.ensures.rules
    (c.profile.ensures.spans ∙ spans) h.1 h.2
