use Rattle.std.proofs.Common.{◌<◌, sym, subst, arith}
use Rattle.table_image.proofs.cells.step.Goals as goal

pub returns-clause-target : goal.returns-clause-target
returns-clause-target c = subst (λ z. z < c.args.bound) (c.head.ensures.target c.args.from c.head.ensures.here)
    (c.requires.walk.1 c.args.from (omega arith) c.ranges.from.fits)

pub returns-clause-more : goal.returns-clause-more
returns-clause-more c lt next row same = (
  row,
  λ b le small. subst (λ z. z < c.args.bound) (sym (same b (omega (arith, le))))
      (c.requires.walk.1 b (omega (arith, le, c.head.ensures.here)) small),
)
