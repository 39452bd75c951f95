use mathlib.Core.Logic.{inl, inr}
use Rattle.tree_row.specs.laws.Decisions.{world_of, seen_of}
use Rattle.tree_row.proofs.laws.torn_rows_encode_no_tree.Goals as goal

pub returns : goal.returns
returns g c torn row t whole well enc =
    let known = g.met.C.Cells.whole_may c.args.look.now.cells row whole in
    elim torn [ inl lacks ↦ known.1 lacks | inr none ↦ none (world_of row t well) (seen_of _ _ row t known.0 well enc) ]
