use Rattle.std.proofs.Common.{map}
use Rattle.trace_audit.specs.inner.FoundValues.{text_value}
use Rattle.trace_audit.proofs.AllLines.{last_line, next_line}
use Rattle.trace_audit.proofs.rows.lines_of.Goals as goal

pub loop-group-preserved : goal.loop-group-preserved
loop-group-preserved c = (
  c.in_ok-put_group.ensures.known,
  next_line c.args.format (map text_value c.args.texts.now) c.args.groups.now c.loop-group.group-index c.group-item.result
      c.loop-group.lines.items c.put_group.new.lines.items c.loop-group-test.true c.group-item.is c.in_ok-put_group.ensures.line
      c.loop-group.invariant.1,
)

pub returns : goal.returns
returns c =
    last_line c.args.format (map text_value c.args.texts.now) c.args.groups.now c.loop-group.group-index c.loop-group.lines.items
    c.loop-group-test.false c.loop-group.invariant.1
