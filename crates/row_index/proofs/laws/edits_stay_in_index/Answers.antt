use Rattle.row_index.proofs.Cells.{inserts_after, inserts_before, inserts_long, removes_after, removes_before, removes_long}
use Rattle.row_index.proofs.laws.edits_stay_in_index.Goals as goal

pub returns-clause-inserted_before : goal.returns-clause-inserted_before
returns-clause-inserted_before g c base size home s k row after put l = inserts_before base size home s row after put k l

pub returns-clause-inserted_after : goal.returns-clause-inserted_after
returns-clause-inserted_after g c base size home s k row after low put l = inserts_after base size home s row after low put k l

pub returns-clause-inserted_long : goal.returns-clause-inserted_long
returns-clause-inserted_long g c = inserts_long

pub returns-clause-removed_before : goal.returns-clause-removed_before
returns-clause-removed_before g c base size s k row after gone l = removes_before base size g.S.Slots.home s row after gone k l

pub returns-clause-removed_after : goal.returns-clause-removed_after
returns-clause-removed_after g c base size s k row after gone l = removes_after base size g.S.Slots.home s row after gone k l

pub returns-clause-removed_long : goal.returns-clause-removed_long
returns-clause-removed_long g c base size s row after gone = removes_long base size g.S.Slots.home s row after gone
