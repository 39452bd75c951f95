use Rattle.matcher.proofs.ToldByTables.{tells_verdicts}
use Rattle.matcher.proofs.laws.tables_of_rules_tell_their_verdicts.Goals as goal

pub returns : goal.returns
returns c =
    let verdicts = c.one_verdict_is_right.ensures in
    tells_verdicts c.least_hits_tell_the_verdict.ensures c.names_have_one_least_record.ensures.some verdicts.some verdicts.only
