-- One more name has its answer.
use Rattle.std.proofs.Common.{◌∙◌, ◌+◌, ◌-◌, ◌<◌, ℕ, get_or, length, length-set, slice_set, sym, subst, arith}
use Rattle.std.proofs.lemmas.Option.{slice_get-get_or}
use Rattle.table_batches.specs.Batches.{name_at as part_name_at, IsAfter}
use Rattle.image_judge.specs.inner.Parts.{AreToldTo, IsToldAt}
use Rattle.image_judge.proofs.Parts.{part_long, told_by, told_more}
use Rattle.image_judge.proofs.batch.answer_by.Goals as goal

pub loop-i-preserved : goal.loop-i-preserved
loop-i-preserved c =
    let t = c.args.image.now in
    let ask = c.args.ask in
    let names = c.args.names.now in
    let part = c.args.part.now in
    let states = c.args.states.now in
    let i = c.loop-i.i in
    let place = c.args.first + i in
    let lt : i < length states = c.loop-i-test.true in
    let s : ℕ = get_or states i 0 in
    let after : IsAfter t (part_name_at names part i) s = c.requires.after i s (slice_get-get_or states i 0 lt) in
    let on = c.answer_on.ensures in
    let told = told_by t ask (part_name_at names part i) s c.record_of-record.result on.0 c.answer_on.result
    (get_or part (i + 1) 0 - get_or part i 0) after.0 c.record_of-record.ensures (c.grounds_of.ensures.told on.0 on.1) on.2
    (part_long names (get_or part i 0) (get_or part (i + 1) 0) (c.requires.offsets.ascend i lt)
    (c.requires.offsets.within (i + 1) (omega (arith, lt)))) in
    record {
      long = length-set c.loop-i.answers place c.answer_on.result ∙ c.loop-i.invariant.long;
      told = subst (λ (k : ℕ). AreToldTo t ask names c.args.offsets.now k (slice_set c.loop-i.answers place c.answer_on.result))
          (omega arith)
          (told_more t ask names c.args.offsets.now place c.answer_on.result c.loop-i.answers c.loop-i.invariant.told
          (omega (arith, lt, c.requires.room, c.loop-i.invariant.long))
          (subst (λ o. IsToldAt t ask o c.answer_on.result) (sym (c.requires.names i lt)) told));
    }
