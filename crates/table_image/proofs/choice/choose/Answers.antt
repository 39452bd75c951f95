-- A state before this one is a choice.
use Rattle.std.proofs.Common.{inr, refl, sym, subst, arith}
use Rattle.table_image.specs.inner.DefaultChoice.{IsChoice}
use Rattle.table_image.specs.declared.choice.Choice.{Choice}
use Rattle.table_image.proofs.choice.choose.Goals as goal
use Rattle.table_image.proofs.choice.choose.Goals.{then-cells-fewest, else-cells-fewest}

pub loop-near-preserved : goal.loop-near-preserved
loop-near-preserved c =
    let Is : Choice → Type 0 = IsChoice c.args.dfa.now c.args.depths.now c.args.state c.args.most_depth in
    record {
      long = c.loop-near.invariant.long;
      choice = elim c.if-cells-fewest.branch [
        | then-cells-fewest w ↦ subst Is (sym w.best-is) record {
          there = omega (arith, c.loop-near-test.true, c.requires.state);
          low = omega (arith, c.if-depth-from.false, c.from.ensures);
          lawful = inr (omega (arith, c.loop-near-test.true), refl);
        }
        | else-cells-fewest w ↦ subst Is (sym w.best-is) c.loop-near.invariant.choice
      ];
    }
