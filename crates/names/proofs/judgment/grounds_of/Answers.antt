-- Each deny number of what is asked is included, and each permission that is asked and has no allow number.
use Rattle.std.proofs.Common.{sym, ◌∙◌}
use Rattle.names.proofs.PermsTests.{passed-all}
use Rattle.names.proofs.LeastSteps.{least-asked, least-skip, least-all}
use Rattle.names.proofs.ToldLaws.{told-on}
use Rattle.names.proofs.MissingSteps.{is_missing, missing-asked, missing-skip}
use Rattle.names.proofs.judgment.grounds_of.Goals as goal
use Rattle.names.proofs.judgment.grounds_of.Goals.{then-contains, else-contains}

pub loop-permission-preserved : goal.loop-permission-preserved
loop-permission-preserved c =
    let are = c.permissions_are_numbered.ensures in
    let i = c.loop-permission.permission-index in
    elim c.if-contains.branch [
      | then-contains w ↦ record {
        least = least-asked are.below are.there c.args.«record».now c.args.ask i c.loop-permission.rule w.lesser-rule.result
            c.if-contains.rule _ w.of-hits.result (are.only i _ c.loop-permission-test.true)
            w.of-hits.ensures w.rule-is (sym c.contains.ensures ∙ w.if-contains.true) c.loop-permission.invariant.least
            w.lesser-rule.ensures;
        passed = missing-asked c.args.«record».now c.args.ask are.there i _ w.of-hits.result c.loop-permission.missing
            w.with_missing-missing.result
            c.if-contains.missing (are.only i _ c.loop-permission-test.true) w.of-hits.ensures
            (sym c.contains.ensures ∙ w.if-contains.true) w.missing-is w.with_missing-missing.ensures c.loop-permission.invariant.passed;
      }
      | else-contains w ↦ record {
        least = least-skip are.below are.there c.args.«record».now c.args.ask i c.loop-permission.rule
            c.if-contains.rule _ (are.only i _ c.loop-permission-test.true)
            w.rule-is (sym c.contains.ensures ∙ w.if-contains.false) c.loop-permission.invariant.least;
        passed = missing-skip c.args.«record».now c.args.ask are.there i _ c.loop-permission.missing c.if-contains.missing
            (are.only i _ c.loop-permission-test.true) (sym c.contains.ensures ∙ w.if-contains.false) w.missing-is
            c.loop-permission.invariant.passed;
      }
    ]

pub returns-clause-rule : goal.returns-clause-rule
returns-clause-rule c = least-all c.permissions_are_numbered.ensures.below c.permissions_are_numbered.ensures.there
    c.args.«record».now c.args.ask
    c.loop-permission.permission-index c.loop-permission.rule c.loop-permission-test.false c.loop-permission.invariant.least

pub returns-clause-missing : goal.returns-clause-missing
returns-clause-missing c = passed-all (is_missing c.args.«record».now c.args.ask) c.permissions_are_numbered.ensures.below
    c.loop-permission.permission-index c.loop-permission.missing c.loop-permission-test.false c.loop-permission.invariant.passed

pub returns-clause-told : goal.returns-clause-told
returns-clause-told c = told-on c.args.«record».now c.args.ask
    (record { rule = c.loop-permission.rule; missing = c.loop-permission.missing })
    (returns-clause-rule c) (returns-clause-missing c)
