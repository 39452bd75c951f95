use Rattle.rule_reader.proofs.CanonTrees as trees
use Rattle.rule_reader.proofs.reader.laws.profiles_can_be_read.Goals as goal

pub returns-clause-read : goal.returns-clause-read
returns-clause-read c = trees.read_is_profile

pub returns-clause-kept : goal.returns-clause-kept
returns-clause-kept c = λ p. p.readable
