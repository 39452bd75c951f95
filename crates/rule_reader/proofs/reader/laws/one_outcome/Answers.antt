use Rattle.rule_reader.proofs.ReadOutcomes as outcomes
use Rattle.rule_reader.proofs.reader.laws.one_outcome.Goals as goal

pub returns-clause-some : goal.returns-clause-some
returns-clause-some c = outcomes.some_outcome

pub returns-clause-not_both : goal.returns-clause-not_both
returns-clause-not_both c = outcomes.never_both

pub returns-clause-one_profile : goal.returns-clause-one_profile
returns-clause-one_profile c = outcomes.one_profile

pub returns-clause-one_fault : goal.returns-clause-one_fault
returns-clause-one_fault c = outcomes.one_fault

pub returns-clause-read_as_outcome : goal.returns-clause-read_as_outcome
returns-clause-read_as_outcome c = outcomes.read_as_outcome

pub returns-clause-never_memory : goal.returns-clause-never_memory
returns-clause-never_memory c = outcomes.never_memory
