use Rattle.std.proofs.Common.{◌≡◌, ◌≢◌, ◌+◌, ◌∙◌, ℕ, refl, subst, sym, arith, below_more}
use mathlib.Core.Logic.{inl, inr}
use Rattle.row_index.specs.Places.{around}
use Rattle.row_index.specs.Edits.{index_at}
use Rattle.row_index.specs.laws.Rounds.{around_start, around_more}
use Rattle.row_plan.proofs.index.named_place.Goals as goal

pub loop-step-init : goal.loop-step-init
loop-step-init g c = record {
  kept = refl;
  at = λ l. around_start c.args.search.now.size c.args.search.now.home c.requires.search.home;
  within = c.requires.search.home;
  others = λ row after whole draft i l. absurd (omega arith);
}

pub loop-step-preserved : goal.loop-step-preserved
loop-step-preserved g c =
    let search = c.args.search.now in
    let at : c.loop-step.place ≡ around search.size (search.home + c.loop-step.step) = c.loop-step.invariant.at (omega arith) in
    record {
      kept = c.planned_word-word.ensures.kept ∙ c.loop-step.invariant.kept;
      at = λ l. around_more search.size search.home c.loop-step.step c.loop-step.place c.next_place-place.result
          c.next_place-place.ensures.next at (let h = c.requires.search.home in omega arith);
      within = c.next_place-place.ensures.within;
      others = λ row after whole draft.
          let whole_now = subst (λ k. g.C.Cells.whole k row) (sym c.loop-step.invariant.kept) whole in
          let word = c.planned_word-word.ensures.word row after whole_now draft in
          below_more _ _ (c.loop-step.invariant.others row after whole draft)
          (subst (λ (z : ℕ). index_at after search.base z ≢ c.args.slot + 1) at
          (λ e. c.if-word-word_of.false (word ∙ e ∙ sym c.word_of.ensures)));
    }

pub returns-then-word-word_of-clause-some : goal.returns-then-word-word_of-clause-some
returns-then-word-word_of-clause-some g c = (
  c.loop-step.invariant.within,
  λ row after whole draft.
      let whole_now = subst (λ k. g.C.Cells.whole k row) (sym c.loop-step.invariant.kept) whole in
      let word = c.planned_word-word.ensures.word row after whole_now draft in
      sym word ∙ c.if-word-word_of.true ∙ c.word_of.ensures,
)

pub returns-then-word-eq-FREE_WORD-clause-none : goal.returns-then-word-eq-FREE_WORD-clause-none
returns-then-word-eq-FREE_WORD-clause-none g c =
    let search = c.args.search.now in
    let at : c.loop-step.place ≡ around search.size (search.home + c.loop-step.step) = c.loop-step.invariant.at (omega arith) in (
      c.loop-step.step,
      λ row after whole draft.
          let whole_now = subst (λ k. g.C.Cells.whole k row) (sym c.loop-step.invariant.kept) whole in
          let word = c.planned_word-word.ensures.word row after whole_now draft in
          let free = subst (λ (z : ℕ). index_at after search.base z ≡ 0) at (sym word ∙ c.if-word-eq-FREE_WORD.true) in
          (inr free, c.loop-step.invariant.others row after whole draft),
    )

pub returns-clause-none : goal.returns-clause-none
returns-clause-none g c =
    let all : c.loop-step.step ≡ c.args.search.now.size = omega arith in
    (c.loop-step.step, λ row after whole draft. (inl all, c.loop-step.invariant.others row after whole draft))
