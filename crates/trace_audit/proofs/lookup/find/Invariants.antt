-- What the texts that are left lead to, all lead to.
use Rattle.std.proofs.Common.{None, drop, map}
use Rattle.std.specs.Prelude.{option_map}
use Rattle.trace_audit.specs.Lookups as looked
use Rattle.trace_audit.specs.Lookups.{IsFound, IsFoundAmong}
use Rattle.trace_audit.specs.inner.FoundValues.{refusal_value, text_value}
use Rattle.trace_audit.proofs.lookup.find.Given as goal

abbrev pub invariant-loop-text : goal.invariant-loop-text
invariant-loop-text l = (to : looked.Found)
    → IsFoundAmong l.name l.by_owner (option_map refusal_value l.first) (map text_value (drop l.text-index l.texts)) to
    → IsFound (map text_value l.texts) l.name l.by_owner to
