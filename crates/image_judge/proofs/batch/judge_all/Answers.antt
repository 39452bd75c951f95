-- What the image's table says is the answer.
use Rattle.std.proofs.Common.{◌∙◌, sym, arith}
use Rattle.std.proofs.lemmas.Option.{slice_get_within}
use Rattle.image_judge.specs.Batches.{name_at}
use Rattle.image_judge.proofs.Parts.{answer_at}
use Rattle.image_judge.proofs.batch.judge_all.Goals as goal

pub returns-in-Some : goal.returns-in-Some
returns-in-Some c =
    let answers = c.judge_names.new.answers in
    record {
      long = c.judge_names.ensures.long;
      each = λ i a at. answer_at c.args.image.now c.args.asked c.in-Some.ask c.accepted.result
          (name_at c.args.names.now c.args.offsets.now i) a (sym c.set_of_number.ensures ∙ c.in-Some.is) c.accepted.ensures
          (c.judge_names.ensures.told i a (omega (arith, slice_get_within answers i a at, c.judge_names.ensures.long)) at);
    }
