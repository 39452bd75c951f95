-- The causes of what is asked, or nothing.
use Rattle.std.proofs.Common.{true≢false, sym, ◌∙◌}
use Rattle.std.proofs.lemmas.Result.{IfOk-weaker}
use Rattle.question_answers.specs.inner.Causes.{AreCauses, AreTold}
use Rattle.question_answers.proofs.Noted.{none_noted, noted_as}
use Rattle.question_answers.proofs.notes.note.Goals as goal

pub returns-then-say : goal.returns-then-say
returns-then-say c =
    let hits = c.in-Some.ensures.some in
    let records = c.in-Some.records in
    let ask = c.args.ask in
    let told = c.say.ensures.0 c.if-say.true in
    IfOk-weaker c.insert_all.result _ _
    (λ new are. (
      hits.0,
      records,
      hits.1,
      hits.2,
      noted_as c.args.seen.now.keys c.insert_all.new.seen.keys new (AreCauses records ask)
          (λ k. AreTold c.args.answers records × AreCauses records ask k)
          (λ k. (λ is. (told, is), λ is. is.1)) are,
    ))
    c.insert_all.ensures

pub returns-else-say : goal.returns-else-say
returns-else-say c =
    let hits = c.in-Some.ensures.some in
    let records = c.in-Some.records in (
      hits.0,
      records,
      hits.1,
      hits.2,
      none_noted c.args.seen.now.keys (λ k. AreTold c.args.answers records × AreCauses records c.args.ask k)
          (λ k is. true≢false (sym (c.say.ensures.1 is.0) ∙ c.if-say.false)),
    )
