use Rattle.std.proofs.Common.{ℕ, List, sym, ap, ◌∙◌, subst, take}
use Rattle.std.specs.Prelude.{Result, Ok, IfErr}
use Rattle.directory_tree.specs.Place.{named_place}
use Rattle.tree_row.specs.declared.reader.ReadCells.{ReadCells}
use Rattle.tree_row.specs.declared.stop.Stop.{Stop}
use Rattle.tree_row.specs.ReadWords.{StopsReading}
use Rattle.tree_row.specs.laws.Decisions.{Part, told_both, stops_both, taken_is}
use Rattle.tree_row.proofs.reader.name_place_and_read.Goals as goal

pub returns-in-Ok-clause-name : goal.returns-in-Ok-clause-name
returns-in-Ok-clause-name c =
    let known = ap (λ (z : Part × (ℕ × List ℕ) × ℕ). z.0) c.name_of_place.ensures.kept ∙ ap (λ (z : ReadCells). z.known.now)
    c.new-look.ensures ∙ c.new.ensures.known in
    let most = ap (λ (z : Part × (ℕ × List ℕ) × ℕ). z.2) c.name_of_place.ensures.kept ∙ ap (λ (z : ReadCells). z.most) c.new-look.ensures
    ∙ c.new.ensures.most in
    let read = sym (ap (λ (z : ReadCells). z.read.1) c.into_cells.ensures) in
    told_both _ _ (λ t. named_place t c.args.path.now) (Ok (take c.in-Ok.length c.name_of_place.new.room)) (taken_is known read most)
    c.in-Ok.ensures.name

pub returns-in-Err-clause-stops : goal.returns-in-Err-clause-stops
returns-in-Err-clause-stops c =
    let known = ap (λ (z : Part × (ℕ × List ℕ) × ℕ). z.0) c.name_of_place.ensures.kept ∙ ap (λ (z : ReadCells). z.known.now)
    c.new-look.ensures ∙ c.new.ensures.known in
    let most = ap (λ (z : Part × (ℕ × List ℕ) × ℕ). z.2) c.name_of_place.ensures.kept ∙ ap (λ (z : ReadCells). z.most) c.new-look.ensures
    ∙ c.new.ensures.most in
    let read = sym (ap (λ (z : Part). z.1) c.stopped.ensures.read ∙ ap (λ (z : ReadCells). z.read.1) c.into_cells-in-Err.ensures) in
    let cells = c.name_of_place.new.look.cells in
    subst (λ (z : Result ℕ Stop). IfErr z (StopsReading c.args.known.now.0 c.args.known.now.1 c.stopped.result.read.1 c.args.most
    (λ t. named_place t c.args.path.now))) (sym c.stopped.ensures.end)
    (stops_both _ _ (λ t. named_place t c.args.path.now) c.in-Err.fault cells.lack _ (taken_is known read most)
    (ap (λ (z : ReadCells). z.lack) c.into_cells-in-Err.ensures) cells.honest c.in-Err.ensures.fault)
