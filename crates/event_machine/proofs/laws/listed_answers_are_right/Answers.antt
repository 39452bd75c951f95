use Rattle.std.proofs.Common.{refl, []}
use Rattle.event_machine.specs.Machine.{first}
use Rattle.event_machine.proofs.Told.{told_right}
use Rattle.event_machine.proofs.laws.listed_answers_are_right.Goals as goal

pub returns : goal.returns
returns c capacity events answers before after m s told legal is = told_right capacity [] [] (first capacity) events answers before after m
    s told (refl, refl) legal is
