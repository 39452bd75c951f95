use Rattle.std.proofs.Common.{◌≡◌, ℕ, ◌+◌, ◌<◌, ◌∙◌, Some, None, refl, ap, subst, arith}
use Rattle.std.specs.Prelude.{slice_index}
use Rattle.row_index.specs.Places.{around, index_length}
use Rattle.row_index.specs.Hashes.{home}
use Rattle.row_index.specs.laws.Rounds.{around_start, around_more}
use Rattle.tree_row.specs.Worlds.{Reads}
use Rattle.tree_row.specs.Search.{TellsNamed}
use Rattle.tree_row.proofs.IndexSearch.{before_more, ends_free, ends_all, found_named}
use Rattle.tree_row.proofs.search.find_child.Goals as goal

pub loop-step-init : goal.loop-step-init
loop-step-init g c =
    let size : ℕ = c.index-base.result.length in
    let low : home size c.args.directory c.args.component.now < size = subst
    (λ (z : ℕ). z < size) c.home-place.ensures.home c.home-place.ensures.within in
    record {
      kept = refl;
      fewer = λ row m. m;
      at = λ l. c.home-place.ensures.home ∙ around_start size (home size c.args.directory c.args.component.now) low;
      within = c.home-place.ensures.within;
      none = λ row w m enc i s l child e. absurd (omega arith);
    }

pub returns-then-word-eq-FREE_WORD-clause-ok : goal.returns-then-word-eq-FREE_WORD-clause-ok
returns-then-word-eq-FREE_WORD-clause-ok g c =
    let capacity : ℕ = g.C.Cells.capacity_of (g.C.Cells.kept c.args.cells.now) in
    let long : c.index-base.result.length ≡ index_length capacity = c.index-base.ensures.length in
    let at = subst (λ (z : ℕ). c.loop-step.place ≡ around z (home z c.args.directory c.args.component.now + c.loop-step.step)) long
    (c.loop-step.invariant.at (omega arith)) in
    let reads = subst (λ (z : ℕ). Reads (g.C.Cells.may c.word_at.new.cells)
    (λ row. slice_index row (z + c.loop-step.place)) c.in_ok-word.word)
    c.index-base.ensures.base c.in_ok-word.ensures.ok in
    ends_free capacity (g.C.Cells.may c.loop-step.cells)
    (g.C.Cells.may c.word_at.new.cells) c.args.directory c.args.component.now c.word_at.ensures.fewer
    c.loop-step.step c.loop-step.place c.in_ok-word.word at reads
    c.loop-step.invariant.none c.if-word-eq-FREE_WORD.true

pub returns-in-Some-clause-ok : goal.returns-in-Some-clause-ok
returns-in-Some-clause-ok g c =
    let capacity : ℕ = g.C.Cells.capacity_of (g.C.Cells.kept c.args.cells.now) in
    let kept = c.word_at.ensures.kept ∙ c.loop-step.invariant.kept in
    let long : c.index-base.result.length ≡ index_length capacity = c.index-base.ensures.length in
    let reads = subst (λ (z : ℕ). Reads (g.C.Cells.may c.word_at.new.cells)
    (λ row. slice_index row (z + c.loop-step.place)) c.in_ok-word.word)
    c.index-base.ensures.base c.in_ok-word.ensures.ok in
    let told = subst (λ (z : ℕ). TellsNamed z (g.C.Cells.may c.named_child.new.cells) c.args.directory
    c.args.component.now c.in_ok-word.word (Some c.in-Some.slot)) (ap g.C.Cells.capacity_of kept)
    (subst (TellsNamed (g.C.Cells.capacity_of (g.C.Cells.kept c.word_at.new.cells))
    (g.C.Cells.may c.named_child.new.cells) c.args.directory c.args.component.now c.in_ok-word.word) c.in-Some.is
    c.in_ok-slot.ensures.ok) in
    found_named capacity (g.C.Cells.may c.word_at.new.cells) (g.C.Cells.may c.named_child.new.cells) c.args.directory
    c.args.component.now c.loop-step.place c.in_ok-word.word c.in-Some.slot c.named_child.ensures.fewer
    (subst (λ (z : ℕ). c.loop-step.place < z) long c.loop-step.invariant.within) reads told

pub loop-step-preserved : goal.loop-step-preserved
loop-step-preserved g c =
    let size : ℕ = c.index-base.result.length in
    let capacity : ℕ = g.C.Cells.capacity_of (g.C.Cells.kept c.args.cells.now) in
    let kept = c.word_at.ensures.kept ∙ c.loop-step.invariant.kept in
    let low : home size c.args.directory c.args.component.now < size = subst
    (λ (z : ℕ). z < size) c.home-place.ensures.home c.home-place.ensures.within in
    let at = c.loop-step.invariant.at (omega arith) in
    let long : size ≡ index_length capacity = c.index-base.ensures.length in
    let at_long = subst (λ (z : ℕ). c.loop-step.place ≡ around z
    (home z c.args.directory c.args.component.now + c.loop-step.step)) long at in
    let reads = subst (λ (z : ℕ). Reads (g.C.Cells.may c.word_at.new.cells)
    (λ row. slice_index row (z + c.loop-step.place)) c.in_ok-word.word)
    c.index-base.ensures.base c.in_ok-word.ensures.ok in
    let told = subst (λ (z : ℕ). TellsNamed z
    (g.C.Cells.may c.named_child.new.cells) c.args.directory c.args.component.now c.in_ok-word.word None) (ap g.C.Cells.capacity_of kept)
    (subst (TellsNamed (g.C.Cells.capacity_of (g.C.Cells.kept c.word_at.new.cells))
    (g.C.Cells.may c.named_child.new.cells) c.args.directory c.args.component.now c.in_ok-word.word) c.in-None.is
    c.in_ok-slot.ensures.ok) in
    record {
      kept = c.named_child.ensures.kept ∙ kept;
      fewer = λ row m. c.loop-step.invariant.fewer row (c.word_at.ensures.fewer row (c.named_child.ensures.fewer row m));
      at = λ l. around_more size (home size c.args.directory c.args.component.now) c.loop-step.step c.loop-step.place
          c.next_place-place.result c.next_place-place.ensures.next at (omega arith);
      within = c.next_place-place.ensures.within;
      none = before_more capacity (g.C.Cells.may c.loop-step.cells)
          (g.C.Cells.may c.named_child.new.cells) c.args.directory c.args.component.now
          (λ row m. c.word_at.ensures.fewer row
          (c.named_child.ensures.fewer row m)) c.loop-step.step c.loop-step.place c.in_ok-word.word at_long
          (λ row m. reads row (c.named_child.ensures.fewer row m)) c.loop-step.invariant.none told;
    }

pub returns-clause-ok : goal.returns-clause-ok
returns-clause-ok g c =
    let capacity : ℕ = g.C.Cells.capacity_of (g.C.Cells.kept c.args.cells.now) in
    let long : c.index-base.result.length ≡ index_length capacity = c.index-base.ensures.length in
    let end : c.loop-step.step ≡ c.index-base.result.length = omega arith in
    ends_all capacity (g.C.Cells.may c.loop-step.cells) c.args.directory c.args.component.now c.loop-step.step
    (end ∙ long) c.loop-step.invariant.none
