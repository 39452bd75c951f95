use Rattle.std.proofs.Common.{ap, map}
use Rattle.trace_audit.specs.inner.FoundValues.{text_value}
use Rattle.trace_audit.proofs.TextLaws.{all_read, none_read, one_more_text}
use Rattle.trace_audit.proofs.texts.texts_named.Goals as goal

pub loop-name-init : goal.loop-name-init
loop-name-init g c =
    none_read (g.T.NamedTexts.known c.args.texts.now) (map text_value c.new-read.result.items)
    (ap (map text_value) c.new-read.ensures.items)

pub loop-name-preserved : goal.loop-name-preserved
loop-name-preserved g c =
    one_more_text (g.T.NamedTexts.known c.args.texts.now) c.args.names.now c.loop-name.name-index _ c.loop-name.read.items
    c.push.new.self.items c.in_ok-text.text c.loop-name-test.true c.loop-name.invariant c.in_ok-text.ensures c.in-Ok.ensures.items

pub returns-clause-ok : goal.returns-clause-ok
returns-clause-ok g c =
    all_read (g.T.NamedTexts.known c.args.texts.now) c.args.names.now c.loop-name.name-index (map text_value c.loop-name.read.items)
    c.loop-name-test.false c.loop-name.invariant
