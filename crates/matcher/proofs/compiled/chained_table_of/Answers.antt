use Rattle.std.proofs.Common.{◌∙◌}
use Rattle.matcher.proofs.ToldByTables.{tells_least}
use Rattle.rule_profile.specs.Profile.{profile_value}
use Rattle.matcher.proofs.compiled.chained_table_of.Goals as goal

pub returns-clause-rules : goal.returns-clause-rules
returns-clause-rules c =
    let rules = (profile_value c.args.profile.now).rules in
    let automaton = c.in_ok-dfa.ensures.ok in
    let made = c.in_ok-pack_chained.ensures.table in
    record {
      dead = (made.dead, made.dead_record ∙ automaton.hits_nothing);
      least = tells_least c.names_have_one_least_record.ensures.one rules c.in_ok-dfa.dfa _ automaton made;
    }
