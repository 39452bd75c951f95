use Rattle.std.proofs.Common.{ap, ◌∙◌, take}
use Rattle.std.specs.Prelude.{Ok}
use Rattle.directory_tree.specs.Apply.{and_then}
use Rattle.directory_tree.specs.Name.{judged_name}
use Rattle.directory_tree.specs.Walk.{walk}
use Rattle.tree_row.specs.declared.part.PartCells.{PartCells}
use Rattle.tree_row.specs.laws.Decisions.{found_in, told_in, stops_in}
use Rattle.tree_row.proofs.part.name_known.Goals as goal

pub returns-in-Ok-clause-found : goal.returns-in-Ok-clause-found
returns-in-Ok-clause-found c =
    let is = c.reach.ensures.kept ∙ ap (λ (z : PartCells). z.known.now) c.new-look.ensures ∙ c.new.ensures in
    found_in _ _ c.in-Ok.reached.entry.slot (λ t. walk t c.args.last c.args.path.now) is c.in-Ok.ensures.found

pub returns-in-Ok-clause-name : goal.returns-in-Ok-clause-name
returns-in-Ok-clause-name c =
    let is = c.reach.ensures.kept ∙ ap (λ (z : PartCells). z.known.now) c.new-look.ensures ∙ c.new.ensures in
    told_in _ _ (λ t. and_then (walk t c.args.last c.args.path.now) (judged_name t)) (Ok (take c.in-Ok.reached.length c.reach.new.room))
    is c.in-Ok.ensures.name

pub returns-in-Err-clause-stops : goal.returns-in-Err-clause-stops
returns-in-Err-clause-stops c =
    let is = c.reach.ensures.kept ∙ ap (λ (z : PartCells). z.known.now) c.new-look.ensures ∙ c.new.ensures in
    stops_in _ _ (λ t. and_then (walk t c.args.last c.args.path.now) (judged_name t)) c.in-Err.fault _ _ is c.stop.ensures
    c.reach.new.look.cells.honest c.in-Err.ensures.fault
