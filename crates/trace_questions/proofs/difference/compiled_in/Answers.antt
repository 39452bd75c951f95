-- A profile's faults are reported with its side.
use Rattle.trace_questions.proofs.DiffAnswers.{refused_in}
use Rattle.rule_profile.specs.Profile.{profile_value}
use Rattle.trace_questions.proofs.difference.compiled_in.Goals as goal

pub returns-in-Err-clause-err : goal.returns-in-Err-clause-err
returns-in-Err-clause-err c =
    rw c.of.ensures (refused_in c.args.side (profile_value c.args.profile).rules c.in-Err.fault c.in-Err.ensures.err)
