use Rattle.std.proofs.Common.{ℕ, List, sym, ap, ◌∙◌, subst, take}
use Rattle.std.specs.Prelude.{Result, Ok, IfErr}
use Rattle.directory_tree.specs.Apply.{and_then}
use Rattle.directory_tree.specs.Name.{judged_name}
use Rattle.directory_tree.specs.Walk.{walk}
use Rattle.tree_row.specs.declared.look.RowEntry.{RowEntry}
use Rattle.path_lookup.specs.declared.reached.Reached.{Reached}
use Rattle.tree_row.specs.declared.reader.ReadCells.{ReadCells}
use Rattle.tree_row.specs.declared.stop.Stop.{Stop}
use Rattle.tree_row.specs.ReadWords.{StopsReading}
use Rattle.tree_row.specs.laws.Decisions.{Part, found_both, told_both, stops_both, taken_is}
use Rattle.tree_row.proofs.reader.name_and_read.Goals as goal

pub returns-in-Ok-clause-found : goal.returns-in-Ok-clause-found
returns-in-Ok-clause-found c =
    let known = ap (λ (z : Part × (ℕ × List ℕ) × ℕ). z.0) c.reach.ensures.kept ∙ ap (λ (z : ReadCells). z.known.now) c.new-look.ensures
    ∙ c.new.ensures.known in
    let most = ap (λ (z : Part × (ℕ × List ℕ) × ℕ). z.2) c.reach.ensures.kept ∙ ap (λ (z : ReadCells). z.most) c.new-look.ensures
    ∙ c.new.ensures.most in
    let read = sym (ap (λ (z : ReadCells). z.read.1) c.into_cells.ensures) in
    found_both _ _ c.in-Ok.reached.entry.slot (λ t. walk t c.args.last c.args.path.now) (taken_is known read most) c.in-Ok.ensures.found

pub returns-in-Ok-clause-name : goal.returns-in-Ok-clause-name
returns-in-Ok-clause-name c =
    let known = ap (λ (z : Part × (ℕ × List ℕ) × ℕ). z.0) c.reach.ensures.kept ∙ ap (λ (z : ReadCells). z.known.now) c.new-look.ensures
    ∙ c.new.ensures.known in
    let most = ap (λ (z : Part × (ℕ × List ℕ) × ℕ). z.2) c.reach.ensures.kept ∙ ap (λ (z : ReadCells). z.most) c.new-look.ensures
    ∙ c.new.ensures.most in
    let read = sym (ap (λ (z : ReadCells). z.read.1) c.into_cells.ensures) in
    told_both _ _ (λ t. and_then (walk t c.args.last c.args.path.now) (judged_name t)) (Ok (take c.in-Ok.reached.length c.reach.new.room))
    (taken_is known read most) c.in-Ok.ensures.name

pub returns-in-Err-clause-stops : goal.returns-in-Err-clause-stops
returns-in-Err-clause-stops c =
    let known = ap (λ (z : Part × (ℕ × List ℕ) × ℕ). z.0) c.reach.ensures.kept ∙ ap (λ (z : ReadCells). z.known.now) c.new-look.ensures
    ∙ c.new.ensures.known in
    let most = ap (λ (z : Part × (ℕ × List ℕ) × ℕ). z.2) c.reach.ensures.kept ∙ ap (λ (z : ReadCells). z.most) c.new-look.ensures
    ∙ c.new.ensures.most in
    let read = sym (ap (λ (z : Part). z.1) c.stopped.ensures.read ∙ ap (λ (z : ReadCells). z.read.1) c.into_cells-in-Err.ensures) in
    let cells = c.reach.new.look.cells in
    subst (λ (z : Result (Reached RowEntry) Stop). IfErr z (StopsReading c.args.known.now.0 c.args.known.now.1 c.stopped.result.read.1
    c.args.most (λ t. and_then (walk t c.args.last c.args.path.now) (judged_name t)))) (sym c.stopped.ensures.end)
    (stops_both _ _ (λ t. and_then (walk t c.args.last c.args.path.now) (judged_name t)) c.in-Err.fault cells.lack _
    (taken_is known read most) (ap (λ (z : ReadCells). z.lack) c.into_cells-in-Err.ensures) cells.honest c.in-Err.ensures.fault)
