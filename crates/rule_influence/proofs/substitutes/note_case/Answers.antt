-- The candidate of one more permission is added, or is in the list, or its rule doesn't match the name.
use Rattle.std.proofs.Common.{◌∙◌, ◌+◌, ℕ, List, Vec, Global, Contains, subst, sym, arith, true≢false}
use Rattle.rule_influence.specs.StandIns.{IsAscending}
use Rattle.rule_influence.specs.inner.Lists.{AreAdded}
use Rattle.rule_influence.proofs.CandidateLists.{IsAtBefore, added_all, added_more, added_not}
use Rattle.rule_influence.proofs.substitutes.note_case.Goals.{then-number-ne0+then-not-has+then-takes+in_ok-add, else-number-ne0}
use Rattle.rule_influence.proofs.substitutes.note_case.Goals.{else-number-ne0-via-then-number-ne0+then-not-has+else-takes}
use Rattle.rule_influence.proofs.substitutes.note_case.Goals.{else-number-ne0-via-then-number-ne0+else-not-has}
use Rattle.rule_influence.proofs.substitutes.note_case.Goals.{else-number-ne0-via-else-number-ne0}
use Rattle.rule_influence.proofs.substitutes.note_case.Goals as goal

pub loop-permission-preserved : goal.loop-permission-preserved
loop-permission-preserved c = record {
  added = λ up.
      let so_far = c.loop-permission.invariant.added up in
      let Added : Vec ℕ Global → Type 0 =
      λ z. AreAdded (IsAtBefore c.args.case c.args.records.now c.args.name.now (c.loop-permission.permission-index + 1))
      c.args.list.now.items z.items in
      elim c.if-number-ne0.branch [
        | then-number-ne0+then-not-has+then-takes+in_ok-add w ↦ subst Added (sym w.list-is)
            (added_more c.args.case c.args.records.now c.permissions_are_numbered.ensures.there c.args.name.now
            c.loop-permission.permission-index _ c.candidate-number.result c.args.list.now.items c.loop-permission.list.items
            w.add.new.list.items
            (c.permissions_are_numbered.ensures.only c.loop-permission.permission-index _ c.loop-permission-test.true)
            c.candidate-number.ensures w.if-number-ne0.true (w.takes.ensures.0 w.if-takes.true) so_far
            (w.in_ok-add.ensures so_far.ascending))
        | else-number-ne0 w ↦ subst Added (sym w.list-is)
            (added_not c.args.case c.args.records.now c.permissions_are_numbered.ensures.there c.args.name.now
            c.loop-permission.permission-index _ c.candidate-number.result c.args.list.now.items c.loop-permission.list.items
            (c.permissions_are_numbered.ensures.only c.loop-permission.permission-index _ c.loop-permission-test.true)
            c.candidate-number.ensures
            (elim w.else-number-ne0.branch [
              | else-number-ne0-via-then-number-ne0+then-not-has+else-takes v ↦ λ nonzero taken.
                  absurd (true≢false (sym (v.takes.ensures.1 taken) ∙ v.if-takes.false))
              | else-number-ne0-via-then-number-ne0+else-not-has v ↦ λ nonzero taken.
                  subst (λ (z : List ℕ). Contains z c.candidate-number.result) v.deref.ensures.value
                  ((v.has.ensures (subst IsAscending (sym v.deref.ensures.value) so_far.ascending)).0 v.if-not-has.false)
              | else-number-ne0-via-else-number-ne0 v ↦ λ nonzero taken. absurd (nonzero v.if-number-ne0.false)
            ])
            so_far)
      ];
}

pub returns : goal.returns
returns c up =
    added_all c.args.case c.args.records.now c.permissions_are_numbered.ensures.there c.args.name.now c.loop-permission.permission-index
    c.args.list.now.items c.loop-permission.list.items c.permissions_are_numbered.ensures.below
    (omega (arith, c.loop-permission-test.false)) (c.loop-permission.invariant.added up)
