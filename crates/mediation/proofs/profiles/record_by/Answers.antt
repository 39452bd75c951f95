use Rattle.std.proofs.Common.{sym, subst}
use Rattle.matcher.specs.declared.profiles.AnyProfile.{AnyProfile}
use Rattle.mediation.proofs.RecordVerdicts.{rules_tell, table_tells}
use Rattle.mediation.specs.Profiles.{judge_of}
use Rattle.mediation.specs.inner.RecordVerdicts.{Tells}
use Rattle.rule_profile.specs.Profile.{profile_value}
use Rattle.mediation.proofs.profiles.record_by.Goals as goal

pub returns-in-Compiled : goal.returns-in-Compiled
returns-in-Compiled c =
    let rules = (profile_value c.in-Compiled.compiled.profile).rules in
    let P : AnyProfile → Type 0 = λ profile. Tells (judge_of profile) c.args.name.now c.last_record.result in
    let tells = c.tables_of_rules_tell_their_verdicts.ensures rules c.table.result.now c.table.ensures.rules.least in
    subst P (sym c.in-Compiled.is) (rules_tell rules c.table.result.now c.args.name.now c.last_record.result tells c.type_inv.name
    c.last_record.ensures)

pub returns-in-Loaded : goal.returns-in-Loaded
returns-in-Loaded c =
    let P : AnyProfile → Type 0 = λ profile. Tells (judge_of profile) c.args.name.now c.last_record-in-Loaded.result in
    subst P (sym c.in-Loaded.is)
    (table_tells c.told_is_the_one_verdict.ensures.only c.in-Loaded.loaded c.args.name.now c.last_record-in-Loaded.result
    (rw c.table-in-Loaded.ensures at c.last_record-in-Loaded.ensures))
