use Rattle.rule_influence.proofs.CutRules.{left_out_allows}
use Rattle.rule_influence.proofs.laws.others_keep_their_numbers.Goals as goal

pub returns : goal.returns
returns c = left_out_allows
