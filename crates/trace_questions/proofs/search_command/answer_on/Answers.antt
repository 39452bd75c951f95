-- The text or its rules are refused, or it is answered.
use Rattle.std.proofs.Common.{◌∙◌, List, subst, sym}
use Rattle.glob_automaton.specs.Automata.{most_sets}
use Rattle.glob_automaton.specs.Sets.{AreMoreThan}
use Rattle.rule_globs.specs.Rules.{RuleValue}
use Rattle.rule_profile.specs.Profile.{profile_value}
use Rattle.rule_reader.specs.ReadText.{outcome_of}
use Rattle.trace_questions.specs.Search.{IsSearchOutputOf}
use Rattle.trace_questions.proofs.Refused.{passed_on}
use Rattle.trace_questions.proofs.Searches.{large_rules, of_text}
use Rattle.trace_questions.proofs.search_command.answer_on.Goals as goal

pub returns-in_err-rules : goal.returns-in_err-rules
returns-in_err-rules c path of =
    let text = c.args.text.now in
    let f = c.in_err-rules.field-0.0 in
    passed_on (IsSearchOutputOf c.args.format c.args.quantifier c.args.asked.ask path text
    (outcome_of text)) c.from_residual-in_err-rules.result f
    c.from_residual-in_err-rules.ensures.1
    (large_rules c.args.format c.args.quantifier c.args.asked.ask path text (profile_value c.in_ok-profile.profile) (outcome_of text) f
    c.in_ok-profile.ensures.outcome c.in_err-rules.ensures.err)

pub returns : goal.returns
returns c path of =
    let text = c.args.text.now in
    of_text c.args.format c.args.quantifier c.args.asked.ask path text (profile_value c.in_ok-profile.profile) c.in_ok-rules.rules.rules
    (outcome_of text) c.answer_by.result c.in_ok-profile.ensures.outcome c.in_ok-rules.ensures.rules
    (c.answer_by.ensures path of (c.in_ok-rules.ensures.spans ∙ c.in_ok-profile.ensures.spans)
    (subst (λ (them : List RuleValue). ¬ (AreMoreThan most_sets them)) (sym c.in_ok-rules.ensures.rules) c.in_ok-rules.ensures.few))
