use Rattle.std.proofs.Common.{sym, ◌∙◌}
use Rattle.justification.proofs.SameVerdicts.{same_verdicts}
use Rattle.justification.proofs.end.is_judged.Goals as goal

pub returns-then-file-node : goal.returns-then-file-node
returns-then-file-node c =
    let says = rw c.as_slice.ensures.value at c.judge_name-told.ensures in
    let decides = same_verdicts c.judge_name-told.result c.args.verdict in
    rw c.in-File.is (
      λ t. (c.if-file-node.true, sym says ∙ decides.0 (sym c.eq.ensures ∙ t)),
      λ h. c.eq.ensures ∙ decides.1 (says ∙ h.1),
    )
