-- The causes are among those that were noted, or they are appended.
use Rattle.question_answers.specs.contracts.cause.CausesPartialEq.TheImpl as causes_impl
use Rattle.question_answers.proofs.Noted.{inserted}
use Rattle.question_answers.proofs.notes.insert.Goals as goal

pub returns-in-Ok : goal.returns-in-Ok
returns-in-Ok c =
    inserted causes_impl.eq-value.it c.equal_causes_are_one.ensures.one c.equal_causes_are_one.ensures.itself
    c.args.seen.now.keys c.args.causes c.insert_full.new.self.keys c.in-Ok.new c.in-Ok.ensures.added c.in-Ok.ensures.keys
