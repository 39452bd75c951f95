use Rattle.trace_program.proofs.judgment.ask_of_name.Goals as goal

pub returns-in-Judge-true-clause-output : goal.returns-in-Judge-true-clause-output
returns-in-Judge-true-clause-output g c limit known =
    let ran = c.judge_quietly.ensures.output (g.A.Write.contents c.args.answers.now) in
    (ran.0, ran.1, rw (c.in-Judge-true.is-0, c.in-Judge-true.is-1) ran.2)

pub returns-in-Match-true-clause-output : goal.returns-in-Match-true-clause-output
returns-in-Match-true-clause-output g c limit known =
    let ran = c.match_quietly.ensures.output (g.A.Write.contents c.args.answers.now) in
    (ran.0, ran.1, rw (c.in-Match-true.is-0, c.in-Match-true.is-1) ran.2)
