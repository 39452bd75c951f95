use Rattle.trace_lint.proofs.questions.stand_ins_of.Goals as goal

pub returns-in-Err-clause-err : goal.returns-in-Err-clause-err
returns-in-Err-clause-err c = c.reported.ensures c.args.pair.now.rules c.in-Err.ensures.err
