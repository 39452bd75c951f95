use Rattle.std.proofs.Common.{ℕ, List, Option, subst}
use Rattle.trace_report.specs.Streams.{IsTextOf}
use Rattle.trace_program.proofs.name_lists.names.Goals as goal

pub returns-clause-output : goal.returns-clause-output
returns-clause-output g c =
    let h = c.select_names.ensures.output in
    let profile = subst (λ (left : Option (List ℕ)). IsTextOf left h.0) c.of-profile.ensures h.2 in
    (h.1, h.3, (h.0, profile, rw c.of_options-choice.ensures at h.4))
