use Rattle.std.proofs.Common.{◌≡◌, Ok, ◌++◌, codes, refl, rules}
use Rattle.rule_reader.specs.declared.fault.ReadFault.TheVariants.{NoMemory}
use Rattle.rule_profile.specs.Profile.{profile_value}
use Rattle.rule_reader.specs.ReadText.{outcome_of}
use Rattle.trace_report.specs.Output.{refusal}
use Rattle.trace_steps.specs.StepLines.{PublishesText}
use Rattle.trace_steps.proofs.PublicationEnds.{read_not, read_so}
use Rattle.trace_steps.proofs.Commands.{has_line, has_line_so}
use Rattle.trace_steps.proofs.publication.policy_line.Goals as goal

pub returns-in-Ok : goal.returns-in-Ok
returns-in-Ok g c limit =
    let old = g.M.EventMachine.machine c.args.machine.now in
    let new = g.M.EventMachine.machine c.profile_line.new.machine in
    let outcome = outcome_of c.args.text.now in
    let told = Ok (profile_value c.in-Ok.profile) in
    has_line_so (λ lines. PublishesText limit old told lines new) (λ lines. PublishesText limit old outcome lines new)
    c.profile_line.result (λ lines h. read_so limit old new outcome told lines c.in-Ok.ensures.outcome h) (c.profile_line.ensures limit)

pub returns-in-Err : goal.returns-in-Err
returns-in-Err g c limit =
    let old = g.M.EventMachine.machine c.args.machine.now in
    let outcome = outcome_of c.args.text.now in
    let other : c.in-Err.fault ≡ NoMemory → ⊥ = search rules in
    has_line (λ lines. PublishesText limit old outcome lines old) (codes "policy " ++ refusal c.in-Err.fault) c.refusal_line.result
    c.refusal_line.ensures (read_not limit old old outcome c.in-Err.fault other c.in-Err.ensures.outcome refl)
