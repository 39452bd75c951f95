-- One more list is done.
use Rattle.std.proofs.Common.{◌+◌, ℕ, List, Vec, Global, subst, sym, arith}
use Rattle.std.proofs.lemmas.Option.{slice_get-get_or}
use Rattle.rule_profile.specs.Profile.{profile_value}
use Rattle.rule_influence.proofs.CaseLists.{AreNotedBefore, noted_case, noted_last, noted_none}
use Rattle.rule_influence.proofs.substitutes.note_name.Goals.{in-Some+in_ok-note_case, in_default}
use Rattle.rule_influence.proofs.substitutes.note_name.Goals as goal

pub loop-index-preserved : goal.loop-index-preserved
loop-index-preserved c =
    let Noted : List (Vec ℕ Global) → Type 0 =
    λ z. AreNotedBefore (profile_value c.args.profile.now).rules c.args.cases.now c.args.records.now c.args.name.now c.args.lists.now
    (c.loop-index.index + 1) z in record {
      noted = elim c.match-of.branch [
        | in-Some+in_ok-note_case w ↦ subst Noted (sym w.lists-is)
            (noted_case _ c.args.cases.now c.args.records.now c.args.name.now c.args.lists.now c.loop-index.index _ w.in-Some.case
            c.loop-index.lists w.index-lists-index.result w.note_case.new.list
            (slice_get-get_or c.args.cases.now c.loop-index.index _ c.loop-index-test.true)
            (omega (arith, c.loop-index-test.true, c.requires, c.loop-index.auto.lists))
            w.in-Some.ensures.some
            w.in_ok-note_case.ensures
            c.loop-index.invariant.noted)
        | in_default w ↦ subst Noted (sym w.lists-is)
            (noted_none _ c.args.cases.now c.args.records.now c.args.name.now c.args.lists.now c.loop-index.index _ c.loop-index.lists
            (slice_get-get_or c.args.cases.now c.loop-index.index _ c.loop-index-test.true)
            w.in_default.ensures.none
            c.loop-index.invariant.noted)
      ];
    }

pub returns : goal.returns
returns c =
    noted_last _ c.args.cases.now c.args.records.now c.args.name.now c.args.lists.now c.loop-index.index c.loop-index.lists
    c.loop-index-test.false c.loop-index.invariant.noted
