use Rattle.std.proofs.Common.{ap, ◌∙◌, take}
use Rattle.std.specs.Prelude.{Ok}
use Rattle.directory_tree.specs.Place.{named_place}
use Rattle.tree_row.specs.declared.part.PartCells.{PartCells}
use Rattle.tree_row.specs.laws.Decisions.{told_in, stops_in}
use Rattle.tree_row.proofs.part.name_place_known.Goals as goal

pub returns-in-Ok-clause-name : goal.returns-in-Ok-clause-name
returns-in-Ok-clause-name c =
    let is = c.name_of_place.ensures.kept ∙ ap (λ (z : PartCells). z.known.now) c.new-look.ensures ∙ c.new.ensures in
    told_in _ _ (λ t. named_place t c.args.path.now) (Ok (take c.in-Ok.length c.name_of_place.new.room)) is c.in-Ok.ensures.name

pub returns-in-Err-clause-stops : goal.returns-in-Err-clause-stops
returns-in-Err-clause-stops c =
    let is = c.name_of_place.ensures.kept ∙ ap (λ (z : PartCells). z.known.now) c.new-look.ensures ∙ c.new.ensures in
    stops_in _ _ (λ t. named_place t c.args.path.now) c.in-Err.fault _ _ is c.stop.ensures c.name_of_place.new.look.cells.honest
    c.in-Err.ensures.fault
