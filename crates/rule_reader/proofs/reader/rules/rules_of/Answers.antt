use Rattle.std.proofs.Common.{sym, arith, map}
use Rattle.std.proofs.lemmas.Result.{err_from_is_err_and}
use Rattle.rule_profile.specs.Profile.{rule_value}
use Rattle.rule_reader.proofs.ReadLoops.{front_done, front_fails, rules_end, rules_refused, rules_stop, rules_fault, rules_blank_fault}
use Rattle.rule_reader.proofs.ReadLoops.{rules_step}
use Rattle.rule_reader.proofs.SpanLoops.{spans_end, spans_step}
use Rattle.rule_reader.proofs.reader.rules.rules_of.Goals as goal

pub returns-in-Some-clause-gives : goal.returns-in-Some-clause-gives
returns-in-Some-clause-gives c =
    front_done (map rule_value c.loop-more.rules.items) _ _ c.in-Some.more.now c.loop-more.invariant.so_far
    (rules_end _ c.loop-more.rest.now c.in-Some.more.now (sym c.in-Some.ensures))

pub returns-in-Some-clause-spans : goal.returns-in-Some-clause-spans
returns-in-Some-clause-spans c =
    spans_end c.args.len c.loop-more.rules.items _ c.loop-more.rest.now c.in-Some.more.now _ (sym c.in-Some.ensures)
    c.loop-more.invariant.spans

pub returns-in_err-rule_begins-clause-gives : goal.returns-in_err-rule_begins-clause-gives
returns-in_err-rule_begins-clause-gives c =
    let p = err_from_is_err_and c.from_residual.result c.from_residual.ensures.1 in
    rw (p.1, p.2) (front_fails c.in_err-rule_begins.field-0.0 (map rule_value c.loop-more.rules.items) _ _ c.loop-more.invariant.so_far
    (rules_refused c.in_err-rule_begins.field-0.0 _ c.loop-more.rest.now (omega arith) (sym c.in_default.ensures)
    c.in_err-rule_begins.ensures))

pub returns-then-len-eq-MOST_RULES-clause-gives : goal.returns-then-len-eq-MOST_RULES-clause-gives
returns-then-len-eq-MOST_RULES-clause-gives c =
    front_fails c.fault_here.result (map rule_value c.loop-more.rules.items) _ _ c.loop-more.invariant.so_far
    (rw c.fault_here.ensures (rules_stop _ c.loop-more.rest.now (omega arith) (sym c.in_default.ensures) c.in_ok-rule_begins.ensures))

pub returns-in_err-rule-clause-gives : goal.returns-in_err-rule-clause-gives
returns-in_err-rule-clause-gives c =
    let p = err_from_is_err_and c.from_residual-in_err-rule.result c.from_residual-in_err-rule.ensures.1 in
    rw (p.1, p.2) (front_fails c.in_err-rule.field-0.0 (map rule_value c.loop-more.rules.items) _ _ c.loop-more.invariant.so_far
    (rules_fault c.in_err-rule.field-0.0 _ c.loop-more.rest.now (omega arith) (sym c.in_default.ensures) c.in_err-rule.ensures.gives))

pub returns-in_err-rest-clause-gives : goal.returns-in_err-rest-clause-gives
returns-in_err-rest-clause-gives c =
    let p = err_from_is_err_and c.from_residual-in_err-rest.result c.from_residual-in_err-rest.ensures.1 in
    rw (p.1, p.2) (front_fails c.in_err-rest.field-0.0 (map rule_value c.loop-more.rules.items) _ _ c.loop-more.invariant.so_far
    (rules_blank_fault c.in_err-rest.field-0.0 _ c.loop-more.rest.now (rule_value c.in_ok-rule.rule) c.in_ok-rule.more.now (omega arith)
    (sym c.in_default.ensures) c.in_ok-rule.ensures.gives c.in_err-rest.ensures))

pub loop-more-preserved : goal.loop-more-preserved
loop-more-preserved c =
    let step = rules_step c.loop-more.rules.items _ c.loop-more.rest.now c.in_ok-rule.rule c.in_ok-rule.more.now c.in_ok-rest.rest.now _
    c.in_ok-push.ensures.items (omega arith) (sym c.in_default.ensures) c.in_ok-rule.ensures.gives c.in_ok-rest.ensures
    c.loop-more.invariant.so_far in
    let spans = spans_step c.args.len c.loop-more.rules.items _ c.loop-more.rest.now c.in_ok-rule.rule c.in_ok-rule.more.now
    c.in_ok-rest.rest.now _ c.in_ok-push.ensures.items (omega arith) (sym c.in_default.ensures) c.in_ok-rule.ensures.gives
    c.in_ok-rest.ensures c.in_ok-rule.ensures.span c.loop-more.invariant.spans in
    record { few = step.0; so_far = step.1; spans = spans }
