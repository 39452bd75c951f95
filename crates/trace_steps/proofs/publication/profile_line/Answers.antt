use Rattle.std.proofs.Common.{◌≡◌, ℕ, List, ◌++◌, Ok, refl, ap, ◌∙◌, codes, rules}
use Rattle.matcher.specs.declared.fault.MakeFault.TheVariants.{NoMemory}
use Rattle.mediation.specs.Deeds.{published_rules}
use Rattle.mediation.specs.PolicyChanges.{deed_of}
use Rattle.rule_profile.specs.Profile.{profile_value}
use Rattle.rule_profile.specs.declared.profile.Profile.{Profile}
use Rattle.trace_report.specs.Output.{compile_refusal}
use Rattle.trace_steps.specs.StepLines.{Publishes, PublishesText}
use Rattle.trace_steps.proofs.Commands.{has_line, has_line_so}
use Rattle.trace_steps.proofs.PublicationEnds.{made_not, made_so, published_line}
use Rattle.trace_steps.proofs.publication.profile_line.Goals as goal

pub returns-in-Ok : goal.returns-in-Ok
returns-in-Ok g c limit =
    let old = g.M.EventMachine.machine c.args.machine.now in
    let new = g.M.EventMachine.machine c.publish.new.machine in
    let profile = profile_value c.args.profile in
    let change = c.in_ok-change-in-Ok.change in
    let start = c.in_ok-start.start.items in
    let begins : start ≡ codes "policy " ++ profile.name ++ codes " version " = c.in_ok-start.ensures
    ∙ ap (λ (name : List ℕ). codes "policy " ++ name ++ codes " version ") c.name.ensures in
    let same : deed_of change ≡ published_rules profile = c.in_ok-change-in-Ok.ensures
    ∙ ap (λ (made : Profile). published_rules (profile_value made)) c.in-Ok.ensures.profile in
    has_line_so (λ lines. Publishes old (published_rules profile) (codes "policy " ++ profile.name ++ codes " version ") lines new)
    (λ lines. PublishesText limit old (Ok profile) lines new) c.publish.result
    (λ lines h. made_so limit old new profile lines c.in-Ok.ensures.few h)
    (published_line old new (deed_of change) (published_rules profile) start (codes "policy " ++ profile.name ++ codes " version ")
    c.publish.result same begins c.publish.ensures)

pub returns : goal.returns
returns g c limit =
    let old = g.M.EventMachine.machine c.args.machine.now in
    let profile = profile_value c.args.profile in
    let other : c.in-Err.fault ≡ NoMemory → ⊥ = search rules in
    has_line (λ lines. PublishesText limit old (Ok profile) lines old) (codes "policy " ++ compile_refusal c.in-Err.fault)
    c.refusal_line.result c.refusal_line.ensures (made_not limit old old profile c.in-Err.fault other c.in-Err.ensures.err refl)
