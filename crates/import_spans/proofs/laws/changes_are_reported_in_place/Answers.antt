use Rattle.apparmor_rules.specs.declared.effect.Effect.{Effect}
use Rattle.apparmor_rules.specs.Subjects.{other_subject}
use Rattle.import_spans.proofs.ExactCuts.{for_chosen, for_other, reported_there}
use Rattle.import_spans.proofs.laws.changes_are_reported_in_place.Goals as goal

pub returns-clause-chosen : goal.returns-clause-chosen
returns-clause-chosen c reading choice = reported_there (λ (e : Effect). e.on_chosen) choice.subject reading choice
    (for_chosen choice.subject)

pub returns-clause-other : goal.returns-clause-other
returns-clause-other c reading choice = reported_there (λ (e : Effect). e.on_other) (other_subject choice.subject) reading choice
    (for_other choice.subject)
