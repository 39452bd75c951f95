use Rattle.image_judge.proofs.Sums.{sums_are_sets}
use Rattle.image_judge.proofs.laws.numbers_are_sets.Goals as goal

pub returns : goal.returns
returns c = sums_are_sets
