use Rattle.std.proofs.Common.{◌≡◌, ◌<◌, ◌-◌, ◌+◌, ◌∙◌, ℕ, List, refl, sym, ap, subst, arith}
use Rattle.std.proofs.lemmas.Result.{on_ok_weaker}
use Rattle.row_rule.specs.declared.cell.Cell.{Cell}
use Rattle.row_rule.specs.Row.{write}
use Rattle.row_index.specs.Edits.{index_at, passes, vacated}
use Rattle.tree_row.specs.Rows.{homes_in}
use Rattle.tree_row.specs.Search.{InEncoding}
use Rattle.row_plan.specs.inner.Rows.{Drafts}
use Rattle.row_plan.specs.inner.Acts.{IsTreeRead}
use Rattle.row_plan.specs.inner.Words.{IsWordOf}
use Rattle.row_plan.proofs.Vacated.{IsVacating, drafted, ends_deleted, ends_free, stays, moves}
use Rattle.row_plan.proofs.vacancy.vacate.Goals as goal
use Rattle.row_plan.proofs.vacancy.vacate.Goals.{then-moves_back+in_ok-set_word, else-moves_back}

pub loop-step-init : goal.loop-step-init
loop-step-init g c = record {
  kept = refl;
  vacant_within = c.requires.place;
  within = c.next_place-place.ensures.within;
  so_far = λ row w whole enc.
      let planned = c.requires.planned row w whole enc in
      record { lean = planned.0; named = planned.1; rest = refl };
}

pub returns-then-word-eq-FREE_WORD-clause-ok : goal.returns-then-word-eq-FREE_WORD-clause-ok
returns-then-word-eq-FREE_WORD-clause-ok g c = on_ok_weaker c.free_places.result (λ frees row w whole enc.
    let capacity = g.C.Cells.capacity_of (g.C.Cells.kept c.args.cells.now) in
    let base = c.args.base in
    let size = c.args.size in
    let homes = homes_in size row in
    let start = write row c.args.plan.now.items in
    let plan = c.loop-step.plan.items in
    let now = write row plan in
    let whole_one = subst (λ k. g.C.Cells.whole k row) (sym c.loop-step.invariant.kept) whole in
    let whole_two = subst (λ k. g.C.Cells.whole k row) (sym c.planned_word-word.ensures.kept) whole_one in
    let final = vacated base size homes start c.args.place c.next_place-place.result (size - 1) in
    let left = size - c.loop-step.step in
    let so_far = c.loop-step.invariant.so_far row w whole enc in
    let draft = drafted capacity base size row final plan c.loop-step.vacant c.loop-step.place left so_far in
    let word : c.planned_word-word.result ≡ index_at now base c.loop-step.place =
    c.planned_word-word.ensures.word row now whole_one (subst (λ (p : List Cell). Drafts row p now) (sym c.deref.ensures.value) draft)
    in
    let long = enc.tree.long in
    let done =
    ends_free capacity base size row final plan c.loop-step.vacant c.loop-step.place left so_far c.planned_word-word.result
    (size - (c.loop-step.step + 1)) (omega arith) word c.free_places.new.plan.items c.if-word-eq-FREE_WORD.true
    (frees row now whole_two (omega arith) draft)
    in
    subst (λ (z : ℕ). Drafts row c.free_places.new.plan.items (vacated base size homes start c.args.place z (size - 1)))
    c.next_place-place.ensures.next done
    ) c.free_places.ensures.ok

pub moves_back-requires-clause-read : goal.moves_back-requires-clause-read
moves_back-requires-clause-read g c =
    subst (λ k. IsTreeRead (g.C.Cells.capacity_of k) (g.C.Cells.whole k))
    (sym (c.planned_word-word.ensures.kept ∙ c.loop-step.invariant.kept)) c.requires.read

pub moves_back-requires-clause-word : goal.moves_back-requires-clause-word
moves_back-requires-clause-word g c =
    subst (λ k. InEncoding (g.C.Cells.capacity_of k) (g.C.Cells.whole k)
    (λ row. IsWordOf (g.C.Cells.capacity_of k) row c.planned_word-word.result))
    (sym (c.planned_word-word.ensures.kept ∙ c.loop-step.invariant.kept))
    (λ row w whole enc.
    let capacity = g.C.Cells.capacity_of (g.C.Cells.kept c.args.cells.now) in
    let base = c.args.base in
    let size = c.args.size in
    let plan = c.loop-step.plan.items in
    let now = write row plan in
    let whole_one = subst (λ k. g.C.Cells.whole k row) (sym c.loop-step.invariant.kept) whole in
    let so_far = c.loop-step.invariant.so_far row w whole enc in
    let draft : Drafts row plan now = record { gives = refl; lean = so_far.lean } in
    let word : c.planned_word-word.result ≡ index_at now base c.loop-step.place =
    c.planned_word-word.ensures.word row now whole_one (subst (λ (p : List Cell). Drafts row p now) (sym c.deref.ensures.value) draft)
    in
    subst (IsWordOf capacity row) (sym word) (so_far.named c.loop-step.place c.loop-step.invariant.within))

pub loop-step-preserved : goal.loop-step-preserved
loop-step-preserved g c =
    let capacity = g.C.Cells.capacity_of (g.C.Cells.kept c.args.cells.now) in
    let base = c.args.base in
    let size = c.args.size in
    let plan = c.loop-step.plan.items in
    let vacant = c.loop-step.vacant in
    let place = c.loop-step.place in
    let next = c.next_place-place-in-loop-step.result in
    let is = c.next_place-place-in-loop-step.ensures.next in
    let left = size - c.loop-step.step in
    let most = size - (c.loop-step.step + 1) in
    let more : left ≡ most + 1 = omega arith in
    let read = c.planned_word-word.ensures.kept ∙ c.loop-step.invariant.kept in
    let kept = c.moves_back.ensures.kept ∙ read in
    let reads : (row : List ℕ) → g.C.Cells.whole (g.C.Cells.kept c.args.cells.now) row → Drafts row plan (write row plan)
    → c.planned_word-word.result ≡ index_at (write row plan) base place = λ row whole draft.
    c.planned_word-word.ensures.word row (write row plan) (subst (λ k. g.C.Cells.whole k row) (sym c.loop-step.invariant.kept) whole)
    (subst (λ (p : List Cell). Drafts row p (write row plan)) (sym c.deref.ensures.value) draft)
    in
    let passes_in =
    subst (λ k. InEncoding (g.C.Cells.capacity_of k) (g.C.Cells.whole k)
    (λ row. c.moves_back.result ≡ passes size
    (homes_in size row) c.planned_word-word.result vacant place)) read c.moves_back.ensures.passes
    in
    elim c.if-moves_back.branch [
      | then-moves_back+in_ok-set_word v ↦ record {
        kept = ap g.C.Cells.kept v.cells-is ∙ v.set_word.ensures.kept ∙ kept;
        vacant_within = subst (λ (z : ℕ). z < size) (sym v.vacant-is) c.loop-step.invariant.within;
        within = c.next_place-place-in-loop-step.ensures.within;
        so_far = λ row w whole enc.
            let start = write row c.args.plan.now.items in
            let final = vacated base size (homes_in size row) start c.args.place c.next_place-place.result (size - 1) in
            let so_far = c.loop-step.invariant.so_far row w whole enc in
            let draft = drafted capacity base size row final plan vacant place left so_far in
            let word = reads row whole draft in
            let passed = sym (passes_in row w whole enc) ∙ v.if-moves_back.true in
            let long = enc.tree.long in
            let here = c.loop-step.invariant.vacant_within in
            let there = c.loop-step.invariant.within in
            let set =
            v.in_ok-set_word.ensures.ok row (write row plan) (subst (λ k. g.C.Cells.whole k row) (sym kept) whole) (omega arith) draft
            in
            subst (λ p. IsVacating capacity base size row final p.items c.if-moves_back.vacant next most) (sym v.plan-is)
            (subst (λ (z : ℕ). IsVacating capacity base size row final v.set_word.new.plan.items z next most) (sym v.vacant-is)
            (moves capacity base size row final plan vacant place left so_far c.planned_word-word.result most more word
            v.set_word.new.plan.items next is here there (omega arith) passed set));
      }
      | else-moves_back v ↦ record {
        kept = ap g.C.Cells.kept v.cells-is ∙ kept;
        vacant_within = subst (λ (z : ℕ). z < size) (sym v.vacant-is) c.loop-step.invariant.vacant_within;
        within = c.next_place-place-in-loop-step.ensures.within;
        so_far = λ row w whole enc.
            let start = write row c.args.plan.now.items in
            let final = vacated base size (homes_in size row) start c.args.place c.next_place-place.result (size - 1) in
            let so_far = c.loop-step.invariant.so_far row w whole enc in
            let draft = drafted capacity base size row final plan vacant place left so_far in
            let passed = sym (passes_in row w whole enc) ∙ v.if-moves_back.false in
            subst (λ p. IsVacating capacity base size row final p.items c.if-moves_back.vacant next most) (sym v.plan-is)
            (subst (λ (z : ℕ). IsVacating capacity base size row final plan z next most) (sym v.vacant-is)
            (stays capacity base size row final plan vacant place left so_far c.planned_word-word.result most more
            (reads row whole draft) next is c.if-word-eq-FREE_WORD.false passed));
      }
    ]

pub returns-clause-ok : goal.returns-clause-ok
returns-clause-ok g c = on_ok_weaker c.set_word-2.result (λ sets row w whole enc.
    let capacity = g.C.Cells.capacity_of (g.C.Cells.kept c.args.cells.now) in
    let base = c.args.base in
    let size = c.args.size in
    let homes = homes_in size row in
    let start = write row c.args.plan.now.items in
    let plan = c.loop-step.plan.items in
    let now = write row plan in
    let whole_one = subst (λ k. g.C.Cells.whole k row) (sym c.loop-step.invariant.kept) whole in
    let final = vacated base size homes start c.args.place c.next_place-place.result (size - 1) in
    let left = size - c.loop-step.step in
    let so_far = c.loop-step.invariant.so_far row w whole enc in
    let draft = drafted capacity base size row final plan c.loop-step.vacant c.loop-step.place left so_far in
    let long = enc.tree.long in
    let within = c.loop-step.invariant.vacant_within in
    let done =
    ends_deleted capacity base size row final plan c.loop-step.vacant c.loop-step.place left so_far c.set_word-2.new.plan.items
    (omega arith) (sets row now whole_one (omega arith) draft)
    in
    subst (λ (z : ℕ). Drafts row c.set_word-2.new.plan.items (vacated base size homes start c.args.place z (size - 1)))
    c.next_place-place.ensures.next done
    ) c.set_word-2.ensures.ok
