use Rattle.std.proofs.Common.{◌≢◌, ◌<◌, ◌-◌, ◌+◌, ℕ, List, refl, sym, ap, subst, arith}
use Rattle.std.proofs.lemmas.Bool.{cases_lt}
use Rattle.std.proofs.lemmas.Result.{on_ok_weaker}
use mathlib.Core.Logic.{inl, inr, dite}
use native.Mathlib.Decide.{ℕ_discrete}
use Rattle.row_rule.specs.declared.cell.Cell.{Cell}
use Rattle.row_rule.specs.Row.{write}
use Rattle.row_index.specs.Places.{around}
use Rattle.row_index.specs.Index.{IsFound, Ends}
use Rattle.row_index.specs.Edits.{index_at, place_after, vacated, Removes}
use Rattle.tree_row.specs.Rows.{homes_in}
use Rattle.tree_row.specs.Search.{InEncoding}
use Rattle.row_plan.specs.Plan.{IsLean}
use Rattle.row_plan.specs.declared.index.Search.{Search}
use Rattle.row_plan.specs.inner.Rows.{Drafts}
use Rattle.row_plan.specs.inner.Acts.{IsTreeRead}
use Rattle.row_plan.specs.inner.Words.{NamesIn}
use Rattle.row_plan.proofs.index.remove_from_index.Goals as goal

-- a search that finds a slot's word doesn't end without it
missed : (size : ℕ) (word : ℕ → ℕ) (h s steps : ℕ) → IsFound size word h s → Ends size word h steps
    → ((i : ℕ) → i < steps → word (around size (h + i)) ≢ s + 1) → ⊥
missed size word h s steps at ends others =
    let within = at.within in
    elim (cases_lt at.steps steps) [
      | inl l ↦ others at.steps l at.here
      | inr g ↦ elim ends [
        | inl e ↦ absurd (omega arith)
        | inr e ↦ dite (ℕ_discrete at.steps steps)
            (λ same. let here = at.here in let free = ap (λ (k : ℕ). word (around size (h + k))) same in absurd (omega arith))
            (λ apart. at.reached steps (omega arith) e)
      ]
    ]

pub unreachable-requires : goal.unreachable-requires
unreachable-requires g c =
    let (row, w, whole, enc) = c.requires.read in
    let search = c.search_for-search.result in
    let planned = c.requires.planned row w whole enc in
    let now = write row c.args.plan.now.items in
    let draft : Drafts row c.args.plan.now.items now = record { gives = refl; lean = planned.0 } in
    let none = c.in_default.ensures.none in
    let ended = none.1 row now whole (subst (λ (p : List Cell). Drafts row p now) (sym c.deref.ensures.value) draft) in
    let found = subst (λ (z : Search). IsFound z.size (index_at now z.base) z.home c.args.slot) (sym c.search_for-search.ensures.search)
    planned.1 in
    missed search.size (index_at now search.base) search.home c.args.slot none.0 found ended.0 ended.1

pub vacate-requires-clause-read : goal.vacate-requires-clause-read
vacate-requires-clause-read g c =
    subst (λ k. IsTreeRead (g.C.Cells.capacity_of k) (g.C.Cells.whole k)) (sym c.named_place.ensures.kept) c.requires.read

pub vacate-requires-clause-planned : goal.vacate-requires-clause-planned
vacate-requires-clause-planned g c =
    let capacity = g.C.Cells.capacity_of (g.C.Cells.kept c.args.cells.now) in
    let search = c.search_for-search.result in
    let plan = c.args.plan.now.items in
    subst (λ k. InEncoding (g.C.Cells.capacity_of k) (g.C.Cells.whole k)
    (λ row. IsLean row plan × NamesIn (g.C.Cells.capacity_of k) search.base search.size row (write row plan)))
    (sym c.named_place.ensures.kept)
    (λ row w whole enc.
    let planned = c.requires.planned row w whole enc in (
      planned.0,
      subst (λ (z : Search). NamesIn capacity z.base z.size row (write row plan)) (sym c.search_for-search.ensures.search) planned.2,
    ))

pub returns-clause-ok : goal.returns-clause-ok
returns-clause-ok g c = on_ok_weaker c.vacate.result (λ vacates row w whole enc.
    let search = c.search_for-search.result in
    let place = c.in-Some.place in
    let now = write row c.args.plan.now.items in
    let plan = c.vacate.new.plan.items in
    let left =
    subst (λ k. InEncoding (g.C.Cells.capacity_of k) (g.C.Cells.whole k) (λ before.
    Drafts before plan (vacated search.base search.size (homes_in search.size before) (write before c.args.plan.now.items) place
    (place_after search.size place) (search.size - 1)))) c.named_place.ensures.kept vacates row w whole enc
    in
    let draft : Drafts row c.args.plan.now.items now = record { gives = refl; lean = (c.requires.planned row w whole enc).0 } in
    let here = c.in-Some.ensures.some in
    let is = here.1 row now whole (subst (λ (p : List Cell). Drafts row p now) (sym c.deref.ensures.value) draft) in (
      left.lean,
      subst (λ (z : Search). Removes z.base z.size (homes_in z.size row) c.args.slot now (write row plan))
          c.search_for-search.ensures.search (place, here.0, is, left.gives),
    )) c.vacate.ensures.ok
