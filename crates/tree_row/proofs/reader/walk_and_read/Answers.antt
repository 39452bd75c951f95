use Rattle.std.proofs.Common.{ℕ, List, sym, ap, ◌∙◌, subst}
use Rattle.std.specs.Prelude.{Result, IfErr}
use Rattle.directory_tree.specs.Walk.{walk}
use Rattle.tree_row.specs.declared.look.RowEntry.{RowEntry}
use Rattle.tree_row.specs.declared.reader.ReadCells.{ReadCells}
use Rattle.tree_row.specs.declared.stop.Stop.{Stop}
use Rattle.tree_row.specs.ReadWords.{StopsReading}
use Rattle.tree_row.specs.laws.Decisions.{Part, found_both, stops_both, taken_is}
use Rattle.tree_row.proofs.reader.walk_and_read.Goals as goal

pub returns-in-Ok-clause-found : goal.returns-in-Ok-clause-found
returns-in-Ok-clause-found c =
    let known = ap (λ (z : Part × (ℕ × List ℕ) × ℕ). z.0) c.resolve.ensures.kept ∙ ap (λ (z : ReadCells). z.known.now) c.new-look.ensures
    ∙ c.new.ensures.known in
    let most = ap (λ (z : Part × (ℕ × List ℕ) × ℕ). z.2) c.resolve.ensures.kept ∙ ap (λ (z : ReadCells). z.most) c.new-look.ensures
    ∙ c.new.ensures.most in
    let read = sym (ap (λ (z : ReadCells). z.read.1) c.into_cells.ensures) in
    found_both _ _ c.in-Ok.entry.slot (λ t. walk t c.args.last c.args.path.now) (taken_is known read most) c.in-Ok.ensures.found

pub returns-in-Err-clause-stops : goal.returns-in-Err-clause-stops
returns-in-Err-clause-stops c =
    let known = ap (λ (z : Part × (ℕ × List ℕ) × ℕ). z.0) c.resolve.ensures.kept ∙ ap (λ (z : ReadCells). z.known.now) c.new-look.ensures
    ∙ c.new.ensures.known in
    let most = ap (λ (z : Part × (ℕ × List ℕ) × ℕ). z.2) c.resolve.ensures.kept ∙ ap (λ (z : ReadCells). z.most) c.new-look.ensures
    ∙ c.new.ensures.most in
    let read = sym (ap (λ (z : Part). z.1) c.stopped.ensures.read ∙ ap (λ (z : ReadCells). z.read.1) c.into_cells-in-Err.ensures) in
    let cells = c.resolve.new.look.cells in
    subst (λ (z : Result RowEntry Stop). IfErr z (StopsReading c.args.known.now.0 c.args.known.now.1 c.stopped.result.read.1 c.args.most
    (λ t. walk t c.args.last c.args.path.now))) (sym c.stopped.ensures.end)
    (stops_both _ _ (λ t. walk t c.args.last c.args.path.now) c.in-Err.fault cells.lack _ (taken_is known read most)
    (ap (λ (z : ReadCells). z.lack) c.into_cells-in-Err.ensures) cells.honest c.in-Err.ensures.fault)
