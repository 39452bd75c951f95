use Rattle.row_index.proofs.Undeleted.{inserts_undeleted, removes_undeleted}
use Rattle.row_index.proofs.laws.edits_leave_no_deleted_word.Goals as goal

pub returns-clause-inserted : goal.returns-clause-inserted
returns-clause-inserted g c base size home s row after fits own clean put = inserts_undeleted base size home s row after fits own clean put

pub returns-clause-removed : goal.returns-clause-removed
returns-clause-removed g c base size s free row after fits clean near is gone =
    removes_undeleted base size g.S.Slots.home s free row after fits clean near is gone
