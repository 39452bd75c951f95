use Rattle.std.proofs.Common.{◌≡◌, ◌≢◌, refl}
use Rattle.apparmor_rules.specs.declared.effect.Extent.{Extent}
use Rattle.apparmor_rules.specs.declared.effect.Extent.TheVariants.{Exact, Wider, Narrower}
use Rattle.apparmor_rules.specs.declared.effect.Effect.{Effect}
use Rattle.import_spans.proofs.ExactCuts.{for_chosen, told_of_all}
use Rattle.import_spans.proofs.laws.exact_spans_mean_exact_rules.Goals as goal

pub returns-clause-exact : goal.returns-clause-exact
returns-clause-exact c reading choice before after item read = told_of_all (λ (e : Effect). e.on_chosen) choice.subject reading choice
    (for_chosen choice.subject) before after item read (λ (x : Extent). x ≡ Exact) refl

pub returns-clause-not_wider : goal.returns-clause-not_wider
returns-clause-not_wider c reading choice before after item read = told_of_all (λ (e : Effect). e.on_chosen) choice.subject reading choice
    (for_chosen choice.subject) before after item read (λ (x : Extent). x ≢ Wider) (λ e. cc)

pub returns-clause-not_narrower : goal.returns-clause-not_narrower
returns-clause-not_narrower c reading choice before after item read = told_of_all (λ (e : Effect). e.on_chosen) choice.subject reading
    choice (for_chosen choice.subject) before after item read (λ (x : Extent). x ≢ Narrower) (λ e. cc)
