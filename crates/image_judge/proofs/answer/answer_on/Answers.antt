use Rattle.std.proofs.Common.{rules}
use Rattle.image_judge.proofs.Verdicts.{chosen}
use Rattle.image_judge.proofs.answer.answer_on.Goals as goal

pub returns : goal.returns
returns c = chosen c.args.grounds c.args.steps c.verdict_number.result c.missing_unless.result c.number_of-missing.result _
    (search rules) (search rules) c.number_of-missing.ensures c.verdict_number.ensures c.missing_unless.ensures
