use Rattle.trace_commands.proofs.ImageAnswers.{matched_by_first, matched_by_image, matched_flat}
use Rattle.trace_commands.proofs.laws.images_of_rules_tell_their_verdicts.Goals as goal

pub returns-clause-verdicts : goal.returns-clause-verdicts
returns-clause-verdicts c =
    let images = c.bytes_have_one_outcome.ensures in
    let tables = c.tables_have_one_outcome.ensures in
    matched_by_image images.one images.either images.one_fault tables.either tables.one_fault c.tables_of_rules_tell_their_verdicts.ensures

pub returns-clause-flat : goal.returns-clause-flat
returns-clause-flat c =
    let images = c.bytes_have_one_outcome.ensures in
    let tables = c.tables_have_one_outcome.ensures in
    matched_by_first images.one images.either images.one_fault tables.either tables.one_fault c.tables_of_rules_tell_their_verdicts.ensures

pub returns-clause-flat_json : goal.returns-clause-flat_json
returns-clause-flat_json c =
    let images = c.bytes_have_one_outcome.ensures in
    let tables = c.tables_have_one_outcome.ensures in
    matched_flat images.one images.either images.one_fault tables.either tables.one_fault c.tables_of_rules_tell_their_verdicts.ensures
