-- The texts so far have the names so far.
use Rattle.std.proofs.Common.{map, take}
use Rattle.trace_audit.specs.Audit.{AreTexts}
use Rattle.trace_audit.specs.inner.FoundValues.{text_value}
use Rattle.trace_audit.proofs.texts.texts_named.Given as goal

abbrev pub invariant-loop-name : goal.invariant-loop-name
invariant-loop-name g l =
    AreTexts (g.T.NamedTexts.known l.texts) (map (λ name. name.now) (take l.name-index l.names)) (map text_value l.read.items)
