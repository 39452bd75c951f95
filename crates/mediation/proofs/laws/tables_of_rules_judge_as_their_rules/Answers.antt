use Rattle.mediation.proofs.RecordVerdicts.{table_as_rules}
use Rattle.mediation.proofs.laws.tables_of_rules_judge_as_their_rules.Goals as goal

pub returns : goal.returns
returns c rules t name ask tells bytes =
    let (r, least) = c.names_have_one_least_record.ensures.some rules name in
    table_as_rules c.told_is_the_one_verdict.ensures.some rules t name ask r (c.tables_of_rules_tell_their_verdicts.ensures rules t tells)
    bytes (tells name r bytes least)
