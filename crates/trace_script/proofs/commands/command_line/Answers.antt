use Rattle.mediation.specs.History.{link_answer}
use Rattle.trace_script.specs.LineValues.{change_words}
use Rattle.trace_script.specs.RunOutput.{change_of, change_printed, drop_printed, judged_printed, open_printed}
use Rattle.trace_script.proofs.PrintedLines.{change_few, composed_few, drop_few, link_few, same_few}
use Rattle.trace_script.proofs.commands.command_line.Goals as goal

pub returns-in-Remove-clause-few : goal.returns-in-Remove-clause-few
returns-in-Remove-clause-few g c =
    let history = g.B.Bench.history c.args.bench.now in
    let after = g.B.Bench.history c.drop_line.new.bench in
    composed_few (drop_printed history c.in-Remove.name.now) history after c.drop_line.result (drop_few history after c.in-Remove.name.now)
    c.drop_line.ensures

pub returns-in-Alter-clause-few : goal.returns-in-Alter-clause-few
returns-in-Alter-clause-few g c =
    let history = g.B.Bench.history c.args.bench.now in
    let after = g.B.Bench.history c.change_line.new.bench in
    let change = change_of (change_words c.in-Alter.words) in
    composed_few (change_printed history change) history after c.change_line.result (change_few history after change) c.change_line.ensures

pub returns-in-JudgeOpen-clause-few : goal.returns-in-JudgeOpen-clause-few
returns-in-JudgeOpen-clause-few g c =
    let history = g.B.Bench.history c.args.bench.now in
    let after = g.B.Bench.history c.open_line.new.bench in
    composed_few (open_printed history c.in-JudgeOpen.profile.now c.in-JudgeOpen.path.now c.in-JudgeOpen.ask) history after
    c.open_line.result (same_few history after) c.open_line.ensures

pub returns-in-JudgeLink-clause-few : goal.returns-in-JudgeLink-clause-few
returns-in-JudgeLink-clause-few g c =
    let history = g.B.Bench.history c.args.bench.now in
    let after = g.B.Bench.history c.link_line.new.bench in
    let profile = c.in-JudgeLink.profile.now in
    let old = c.in-JudgeLink.old.now in
    let new = c.in-JudgeLink.new.now in
    composed_few (judged_printed history profile old new) history after c.link_line.result
    (link_few history after old new (link_answer history profile old new)) c.link_line.ensures
