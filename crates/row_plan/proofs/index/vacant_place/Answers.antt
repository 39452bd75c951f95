use Rattle.std.proofs.Common.{◌≡◌, ◌≤◌, ◌+◌, ◌∙◌, ℕ, refl, subst, sym, arith, below_more}
use Rattle.row_index.specs.Places.{around}
use Rattle.row_index.specs.Edits.{index_at}
use Rattle.row_index.specs.laws.Rounds.{around_start, around_more}
use Rattle.row_plan.proofs.index.vacant_place.Goals as goal

pub loop-step-init : goal.loop-step-init
loop-step-init g c = record {
  kept = refl;
  at = λ l. around_start c.args.search.now.size c.args.search.now.home c.requires.search.home;
  within = c.requires.search.home;
  taken = λ row after whole draft i l. absurd (omega arith);
}

pub loop-step-preserved : goal.loop-step-preserved
loop-step-preserved g c =
    let search = c.args.search.now in
    let at : c.loop-step.place ≡ around search.size (search.home + c.loop-step.step) = c.loop-step.invariant.at (omega arith) in
    record {
      kept = c.planned_word.ensures.kept ∙ c.loop-step.invariant.kept;
      at = λ l. around_more search.size search.home c.loop-step.step c.loop-step.place c.next_place-place.result
          c.next_place-place.ensures.next at (let h = c.requires.search.home in omega arith);
      within = c.next_place-place.ensures.within;
      taken = λ row after whole draft.
          let whole_now = subst (λ k. g.C.Cells.whole k row) (sym c.loop-step.invariant.kept) whole in
          let word : c.planned_word.result ≡ index_at after search.base c.loop-step.place =
          c.planned_word.ensures.word row after whole_now draft
          in
          let past = c.if-planned_word-le-DELETED_WORD.false in
          below_more _ _ (c.loop-step.invariant.taken row after whole draft)
          (subst (λ (z : ℕ). 2 ≤ index_at after search.base z) at (omega arith));
    }

pub returns-then-planned_word-le-DELETED_WORD-clause-some : goal.returns-then-planned_word-le-DELETED_WORD-clause-some
returns-then-planned_word-le-DELETED_WORD-clause-some g c =
    let search = c.args.search.now in
    let at : c.loop-step.place ≡ around search.size (search.home + c.loop-step.step) = c.loop-step.invariant.at (omega arith) in (
      c.loop-step.invariant.within,
      (
        c.loop-step.step,
        at,
        λ row after whole draft.
            let whole_now = subst (λ k. g.C.Cells.whole k row) (sym c.loop-step.invariant.kept) whole in
            let word : c.planned_word.result ≡ index_at after search.base c.loop-step.place =
            c.planned_word.ensures.word row after whole_now draft
            in
            let low = c.if-planned_word-le-DELETED_WORD.true in
            record {
              within = omega arith;
              vacant = subst (λ (z : ℕ). index_at after search.base z ≤ 1) at (omega arith);
              first = c.loop-step.invariant.taken row after whole draft;
            },
      ),
    )
