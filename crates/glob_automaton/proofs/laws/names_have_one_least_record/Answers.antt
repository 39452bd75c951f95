use Rattle.glob_automaton.proofs.OneRecord.{one_record, some_record}
use Rattle.glob_automaton.proofs.laws.names_have_one_least_record.Goals as goal

pub returns-clause-one : goal.returns-clause-one
returns-clause-one c = one_record c.records_are_their_hits.ensures.same

pub returns-clause-some : goal.returns-clause-some
returns-clause-some c = some_record c.takes_by_cuts.ensures
