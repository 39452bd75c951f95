use Rattle.trace_commands.proofs.ImageAnswers.{one_check, one_match}
use Rattle.trace_commands.proofs.laws.images_have_one_answer.Goals as goal

pub returns-clause-checked : goal.returns-clause-checked
returns-clause-checked c =
    let images = c.bytes_have_one_outcome.ensures in
    let tables = c.tables_have_one_outcome.ensures in
    one_check images.one images.either images.one_fault tables.either tables.one_fault

pub returns-clause-matched : goal.returns-clause-matched
returns-clause-matched c =
    let images = c.bytes_have_one_outcome.ensures in
    let tables = c.tables_have_one_outcome.ensures in
    one_match images.one images.either images.one_fault tables.either tables.one_fault c.records_tell_one_verdict.ensures
