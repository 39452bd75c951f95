-- The rules have too many states in the reverse order exactly if they have too many in theirs.
use Rattle.std.proofs.Common.{ap, subst}
use Rattle.glob_automaton.specs.Automata.{IsCompileFault}
use Rattle.rule_globs.specs.Rules.{ProfileValue}
use Rattle.rule_influence.proofs.ReversedSets.{passed_on, reversed_fault}
use Rattle.rule_influence.proofs.pair.RulePair.of.Goals as goal

pub returns-in_err-reversed-clause-err : goal.returns-in_err-reversed-clause-err
returns-in_err-reversed-clause-err c =
    passed_on c.from_residual.result c.in_err-reversed.field-0.0 _ c.from_residual.ensures.1
    (reversed_fault _ c.in_err-reversed.field-0.0
    (subst (λ z. IsCompileFault z c.in_err-reversed.field-0.0) (ap (λ (z : ProfileValue). z.rules) c.in-Ok.ensures)
    c.in_err-reversed.ensures.err))
