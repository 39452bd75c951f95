use Rattle.std.proofs.lemmas.Result.{IfOk-weaker}
use Rattle.trace_audit.specs.inner.FoundValues.{held_value}
use Rattle.trace_audit.proofs.FoundLaws.{held_if_unread}
use Rattle.trace_audit.proofs.lookup.unread.Goals as goal

pub returns-in_default : goal.returns-in_default
returns-in_default c outcome =
    IfOk-weaker c.imported.result _ _ (λ held h. held_if_unread c.args.text.now c.args.name.now c.args.by_owner (held_value held)
    c.args.fault c.in_default.not-NoMemory outcome h) c.imported.ensures
