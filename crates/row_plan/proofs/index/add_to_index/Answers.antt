use Rattle.std.proofs.Common.{◌+◌, ◌∙◌, ◌≤◌, ◌<◌, ℕ, List, refl, sym, subst, arith}
use Rattle.std.proofs.lemmas.Result.{on_ok_weaker}
use Rattle.row_rule.specs.declared.cell.Cell.{Cell}
use Rattle.row_rule.specs.Row.{write}
use Rattle.row_index.specs.Places.{around}
use Rattle.row_index.specs.Edits.{index_at, with_word, Inserts}
use Rattle.row_plan.specs.declared.index.Search.{Search}
use Rattle.row_plan.specs.inner.Rows.{Drafts}
use Rattle.row_plan.proofs.index.add_to_index.Goals as goal

pub unreachable-requires : goal.unreachable-requires
unreachable-requires g c =
    let (row, whole, lean, vacant) = c.requires.vacant in
    let now = write row c.args.plan.now.items in
    let draft : Drafts row c.args.plan.now.items now = record { gives = refl; lean = lean } in
    vacant (subst (λ (z : Search). (i : ℕ) → i < z.size → 2 ≤ index_at now z.base (around z.size (z.home + i)))
    c.search_for-search.ensures.search
    (c.in_default.ensures.none row now whole (subst (λ (p : List Cell). Drafts row p now) (sym c.deref.ensures.value) draft)))

pub returns-clause-ok : goal.returns-clause-ok
returns-clause-ok g c = on_ok_weaker c.set_word.result (λ sets row whole long lean.
    let search = c.search_for-search.result in
    let now = write row c.args.plan.now.items in
    let plan = c.set_word.new.plan.items in
    let draft : Drafts row c.args.plan.now.items now = record { gives = refl; lean = lean } in
    let here = c.in-Some.ensures.some in
    let within = here.0 in
    let vacant = here.1.2 row now whole (subst (λ (p : List Cell). Drafts row p now) (sym c.deref.ensures.value) draft) in
    let whole_now = subst (λ k. g.C.Cells.whole k row) (sym c.vacant_place.ensures.kept) whole in
    let set = sets row now whole_now (omega arith) draft in
    let gives = set.gives ∙ (λ i. with_word now search.base (here.1.1 i) (c.word_of.ensures i)) in (
      set.lean,
      subst (λ (z : Search). Inserts z.base z.size z.home c.args.slot now (write row plan)) c.search_for-search.ensures.search
          (here.1.0, vacant, gives),
    )) c.set_word.ensures.ok
