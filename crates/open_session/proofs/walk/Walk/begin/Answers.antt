use Rattle.std.proofs.Common.{ℕ, [], List, ◌∙◌, ap, arith}
use Rattle.row_rule.specs.declared.cell.Cell.{Cell}
use Rattle.open_session.proofs.Readings.{comes, is_walk}
use Rattle.open_session.proofs.walk.Walk.begin.Goals as goal

pub returns-clause-stands : goal.returns-clause-stands
returns-clause-stands c =
    let own = ap (λ (p : ℕ × List Cell). p.0) c.new-words.ensures ∙ c.capacity.ensures.capacity in
    let reach = c.reach_on-words.ensures in
    is_walk c.args.keeper.now.0 [] c.reach_on-words.new.room _ c.new-words.result.1 0 c.reach_on-words.result.end (omega arith)
    (comes c.args.keeper.now.0 [] c.reach_on-words.new.room _ c.new-words.result c.deref.result.now 0 c.reach_on-words.result.end
    own c.deref.ensures.value reach.capacity c.after.ensures reach.decided reach.lacks reach.sound)
