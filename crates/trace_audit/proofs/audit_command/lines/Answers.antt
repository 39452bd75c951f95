use Rattle.std.proofs.Common.{map}
use Rattle.trace_audit.specs.inner.FoundValues.{text_value}
use Rattle.trace_audit.proofs.audit_command.lines.Goals as goal

pub returns-in-Ok : goal.returns-in-Ok
returns-in-Ok g c = record {
  texts = map text_value c.in_ok-texts.texts.items;
  are_texts = c.in_ok-texts.ensures.ok;
  log = c.in_ok-log.log.items;
  is_log = c.in_ok-log.ensures;
  are = rw (c.deref.ensures.value, c.deref-2.ensures.value) at c.in-Ok.ensures;
}
