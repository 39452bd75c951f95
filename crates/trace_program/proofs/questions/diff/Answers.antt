-- Both texts are those of their names.
use Rattle.std.proofs.Common.{ℕ, List, Option, refl, subst}
use Rattle.trace_report.specs.laws.Endings.{text_of}
use Rattle.trace_report.specs.Streams.{IsTextOf}
use Rattle.trace_program.proofs.questions.diff.Goals as goal

pub returns-in-Some-clause-output : goal.returns-in-Some-clause-output
returns-in-Some-clause-output g c =
    let text = text_of (g.R.Read.remaining c.args.input.now) in
    let h = c.differ.ensures.output in
    let old = subst (λ (left : Option (List ℕ)). IsTextOf left h.0) c.of-old.ensures h.2 in
    let new = subst (λ (left : Option (List ℕ)). IsTextOf left h.1) c.of-new.ensures h.3 in
    (text.0, text.1, (h.0, h.1, old, rw c.in-Some.is new, rw c.witnesses_of.ensures at h.4))

pub returns-clause-output : goal.returns-clause-output
returns-clause-output g c =
    let h = c.differ-in-None.ensures.output in
    let old = subst (λ (left : Option (List ℕ)). IsTextOf left h.0) c.of-old.ensures h.2 in
    (h.1, h.3, (h.0, h.1, old, rw c.in-None.is refl, rw c.witnesses_of.ensures at h.4))
