-- The rule at the index decides some of the permissions, or it is the first that decides none.
use Rattle.std.proofs.Common.{◌∙◌, Some, ap, sym}
use Rattle.trace_lint.specs.Findings.{idle_rule}
use Rattle.trace_lint.specs.Parts.{decided_by, decides_none_of}
use Rattle.std.specs.Prelude.{option_map}
use Rattle.trace_lint.proofs.FirstIdle.{decided_there, first_here, none_more}
use Rattle.trace_lint.proofs.findings.first_idle.Goals as goal

pub loop-number-preserved : goal.loop-number-preserved
loop-number-preserved c =
    let at = c.requires c.loop-number.number-index 0 c.loop-number-test.true in
    none_more (λ n. decides_none_of c.args.perms (decided_by c.args.decided.now n)) c.args.numbers.now c.loop-number.number-index 0
    c.loop-number-test.true c.loop-number.invariant
    (ap (decides_none_of c.args.perms) (decided_there c.args.decided.now _ c.from.result _ c.from.ensures at.0 at.1)
    ∙ sym c.decides_none_of.ensures ∙ c.if-decides_none_of.false)

pub returns-then-decides_none_of : goal.returns-then-decides_none_of
returns-then-decides_none_of c =
    let at = c.requires c.loop-number.number-index 0 c.loop-number-test.true in
    ap Some c.idle_rule.ensures ∙ sym (ap (option_map (idle_rule c.args.decided.now))
    (first_here (λ n. decides_none_of c.args.perms (decided_by c.args.decided.now n)) c.args.numbers.now c.loop-number.number-index 0
    c.loop-number-test.true c.loop-number.invariant
    (ap (decides_none_of c.args.perms) (decided_there c.args.decided.now _ c.from.result _ c.from.ensures at.0 at.1)
    ∙ sym c.decides_none_of.ensures ∙ c.if-decides_none_of.true)))
