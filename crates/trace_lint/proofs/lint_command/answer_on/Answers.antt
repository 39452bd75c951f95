-- The rules are refused, or answered.
use Rattle.std.proofs.Common.{List, subst, sym}
use Rattle.glob_automaton.specs.Automata.{most_sets}
use Rattle.glob_automaton.specs.Sets.{AreMoreThan}
use Rattle.rule_globs.specs.Rules.{RuleValue}
use Rattle.rule_profile.specs.Profile.{profile_value}
use Rattle.rule_reader.specs.ReadText.{outcome_of}
use Rattle.trace_lint.specs.LintOutput.{IsLintOutputOf}
use Rattle.trace_lint.proofs.Written.{decided_refused, of_outcome, passed_on}
use Rattle.trace_lint.proofs.lint_command.answer_on.Goals as goal

pub returns-in_err-decided : goal.returns-in_err-decided
returns-in_err-decided c =
    passed_on (IsLintOutputOf c.args.format c.args.text.now (outcome_of c.args.text.now)) c.from_residual-in_err-decided.result
    c.in_err-decided.field-0.0 c.from_residual-in_err-decided.ensures.1
    (decided_refused c.args.format c.args.text.now (outcome_of c.args.text.now) (profile_value c.in_ok-profile.profile)
    c.in_ok-pair.pair.rules c.in_err-decided.field-0.0
    c.in_ok-profile.ensures.outcome c.in_ok-pair.ensures.rules c.in_err-decided.ensures.err)

pub answer_by-requires-clause-answerable : goal.answer_by-requires-clause-answerable
answer_by-requires-clause-answerable c = (
  subst (λ (rules : List RuleValue). ¬ (AreMoreThan most_sets rules)) (sym c.in_ok-pair.ensures.rules) c.in_ok-pair.ensures.few,
  c.in_ok-decided.ensures.few,
)

pub returns : goal.returns
returns c =
    of_outcome c.args.format c.args.text.now (outcome_of c.args.text.now) (profile_value c.in_ok-profile.profile) c.in_ok-pair.pair.rules
    c.answer_by.result c.in_ok-profile.ensures.outcome c.in_ok-pair.ensures.rules c.answer_by.ensures
