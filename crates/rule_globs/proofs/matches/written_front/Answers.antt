-- From each item to the next, by the byte that it is.
use Rattle.std.proofs.Common.{arith, get_or, refl, sym, ◌∙◌}
use Rattle.rule_globs.proofs.Fronts.{front-same, front-other}
use Rattle.rule_globs.proofs.matches.written_front.Goals as goal

pub loop-i-preserved : goal.loop-i-preserved
loop-i-preserved c = record {
  within = omega (arith, c.if-i-bytes.true);
  same = front-same c.args.items.now c.args.bytes.now c.loop-i.i c.index-items-i.result c.in-Byte.wanted
      (get_or c.args.bytes.now c.loop-i.i 0) c.loop-i-test.true c.index-items-i.is c.in-Byte.is c.if-i-bytes.true refl
      (sym c.is_written.ensures ∙ c.if-not-is_written.false) c.loop-i.invariant.same;
}

pub returns-then-not-is_written : goal.returns-then-not-is_written
returns-then-not-is_written c =
    front-other c.args.items.now c.args.bytes.now c.loop-i.i c.index-items-i.result c.in-Byte.wanted
    (get_or c.args.bytes.now c.loop-i.i 0) c.loop-i-test.true c.index-items-i.is c.in-Byte.is c.if-i-bytes.true refl
    (sym c.is_written.ensures ∙ c.if-not-is_written.true) c.loop-i.invariant.same
