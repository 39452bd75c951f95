use Rattle.std.proofs.Common.{rules}
use Rattle.mediation.proofs.RecordVerdicts.{is_allowed_by, told_allowed}
use Rattle.mediation.specs.Profiles.{judge_of}
use Rattle.mediation.proofs.profiles.allowed_by.Goals as goal

pub returns : goal.returns
returns c =
    let judge = judge_of c.args.profile.now in
    let record_tells = c.record_by-record.ensures in
    c.passing.ensures (is_allowed_by judge c.args.name.now)
    (λ p passes post. told_allowed judge c.args.name.now p c.record_by-record.result passes record_tells (search rules))
