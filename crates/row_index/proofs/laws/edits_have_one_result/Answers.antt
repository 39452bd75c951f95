use Rattle.row_index.proofs.Edited.{inserts_once, removes_once}
use Rattle.row_index.proofs.laws.edits_have_one_result.Goals as goal

pub returns-clause-inserted : goal.returns-clause-inserted
returns-clause-inserted g c = inserts_once

pub returns-clause-removed : goal.returns-clause-removed
returns-clause-removed g c base size s row one other keeps is a b =
    removes_once base size g.S.Slots.used g.S.Slots.home s row one other keeps is a b
