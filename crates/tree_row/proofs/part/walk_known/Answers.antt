use Rattle.std.proofs.Common.{ap, ◌∙◌}
use Rattle.directory_tree.specs.Walk.{walk}
use Rattle.tree_row.specs.declared.part.PartCells.{PartCells}
use Rattle.tree_row.specs.laws.Decisions.{found_in, stops_in}
use Rattle.tree_row.proofs.part.walk_known.Goals as goal

pub returns-in-Ok-clause-found : goal.returns-in-Ok-clause-found
returns-in-Ok-clause-found c =
    let is = c.resolve.ensures.kept ∙ ap (λ (z : PartCells). z.known.now) c.new-look.ensures ∙ c.new.ensures in
    found_in _ _ c.in-Ok.entry.slot (λ t. walk t c.args.last c.args.path.now) is c.in-Ok.ensures.found

pub returns-in-Err-clause-stops : goal.returns-in-Err-clause-stops
returns-in-Err-clause-stops c =
    let is = c.resolve.ensures.kept ∙ ap (λ (z : PartCells). z.known.now) c.new-look.ensures ∙ c.new.ensures in
    stops_in _ _ (λ t. walk t c.args.last c.args.path.now) c.in-Err.fault _ _ is c.stop.ensures c.resolve.new.look.cells.honest
    c.in-Err.ensures.fault
