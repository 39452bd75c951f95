-- The verdict is that on the record's grounds, and the count of the steps is that of the name's bytes.
use Rattle.std.proofs.Common.{◌≡◌, length, ap, ◌∙◌, arith}
use Rattle.image_judge.specs.Answers.{answer_of}
use Rattle.image_judge.proofs.judgment.judge_by.Goals as goal

pub returns : goal.returns
returns c =
    let on = c.answer_on.ensures in
    let by = c.«record_by_image-record» in
    let steps : c.count.result ≡ length c.args.name.now = omega (arith, c.count.ensures, by.ensures.steps, c.new-steps.ensures) in
    (by.result, by.ensures.«record», on.0, c.grounds_of.ensures.told on.0 on.1, on.2 ∙ ap (answer_of on.0) steps)
