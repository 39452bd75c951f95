use Rattle.mediation.proofs.profiles.judge_name.Goals as goal

pub returns : goal.returns
returns c = c.record_by.ensures c.args.ask c.told.result c.told.ensures
