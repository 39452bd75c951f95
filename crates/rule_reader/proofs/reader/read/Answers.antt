use Rattle.std.proofs.Common.{inr}
use Rattle.rule_profile.specs.Profile.{profile_value}
use Rattle.rule_reader.proofs.TakeTexts.{text_takes}
use Rattle.rule_reader.proofs.ReadOutcomes as outcomes
use Rattle.rule_reader.proofs.reader.read.Goals as goal

pub returns-in-Ok-clause-found : goal.returns-in-Ok-clause-found
returns-in-Ok-clause-found c = text_takes c.args.text.now (profile_value c.in-Ok.profile) c.in-Ok.ensures.gives

pub returns-in-Ok-clause-only : goal.returns-in-Ok-clause-only
returns-in-Ok-clause-only c = λ p h. outcomes.is_the_one c.args.text.now p (profile_value c.in-Ok.profile) c.in-Ok.ensures.gives h

pub returns-in-Ok-clause-outcome : goal.returns-in-Ok-clause-outcome
returns-in-Ok-clause-outcome c = outcomes.outcome_ok c.args.text.now (profile_value c.in-Ok.profile) c.in-Ok.ensures.gives

pub returns-in-Err-At-clause-only : goal.returns-in-Err-At-clause-only
returns-in-Err-At-clause-only c = λ p h. absurd (outcomes.not_failed c.args.text.now p c.in-Err-At.field-0 c.in-Err-At.fault
    c.in-Err-At.field-0-is h c.in-Err-At.ensures.gives)

pub returns-in-Err-At-clause-fault : goal.returns-in-Err-At-clause-fault
returns-in-Err-At-clause-fault c = inr (outcomes.failed_so c.args.text.now c.in-Err-At.field-0 c.in-Err-At.fault _ c.in-Err-At.field-0-is
    c.fault_of.ensures c.in-Err-At.ensures.gives)

pub returns-in-Err-At-clause-outcome : goal.returns-in-Err-At-clause-outcome
returns-in-Err-At-clause-outcome c = inr (outcomes.failed_so c.args.text.now c.in-Err-At.field-0 c.in-Err-At.fault _ c.in-Err-At.field-0-is
    c.fault_of.ensures c.in-Err-At.ensures.gives)
