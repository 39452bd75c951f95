use Rattle.rule_reader.proofs.KeptTexts as texts
use Rattle.rule_reader.proofs.reader.laws.settled_faults_stay.Goals as goal

pub returns : goal.returns
returns c = texts.settled_stays
