-- Each byte stays with its least one, joins the first one that isn't taken as that, or is the first one itself.
use Rattle.std.proofs.Common.{◌+◌, refl, sym, subst₂, arith}
use Rattle.glob_automaton.proofs.Splits.{SplitBefore, kept_step, joined_step, begun_step, as_new, all_parted}
use Rattle.glob_automaton.proofs.bytes.split.Goals as goal
use Rattle.glob_automaton.proofs.bytes.split.Goals.{in-Some, in-None}

pub loop-byte-init : goal.loop-byte-init
loop-byte-init c = record { split = as_new 256 refl c.args.least.now c.args.taken.now c.requires }

pub loop-byte-preserved-then-taken-byte : goal.loop-byte-preserved-then-taken-byte
loop-byte-preserved-then-taken-byte c = record {
  split = kept_step c.args.least.now c.args.taken.now c.loop-byte.other c.loop-byte.least c.loop-byte.byte c.requires c.loop-byte-test.true
      c.loop-byte.invariant.split c.if-taken-byte.true;
}

pub loop-byte-preserved : goal.loop-byte-preserved
loop-byte-preserved c = elim c.match-other-old.branch [
  | in-Some w ↦ record {
    split = subst₂ (λ y z. SplitBefore c.args.least.now c.args.taken.now y z (c.loop-byte.byte + 1)) (sym w.other-is) (sym w.least-is)
        (joined_step c.args.least.now c.args.taken.now c.loop-byte.other c.loop-byte.least c.loop-byte.byte w.in-Some.first
        c.loop-byte-test.true c.loop-byte.invariant.split c.if-taken-byte.false w.in-Some.is);
  }
  | in-None w ↦ record {
    split = subst₂ (λ y z. SplitBefore c.args.least.now c.args.taken.now y z (c.loop-byte.byte + 1)) (sym w.other-is) (sym w.least-is)
        (begun_step c.args.least.now c.args.taken.now c.loop-byte.other c.loop-byte.least c.loop-byte.byte c.requires c.loop-byte-test.true
        c.loop-byte.invariant.split c.if-taken-byte.false);
  }
]

pub returns : goal.returns
returns c = all_parted c.args.least.now c.args.taken.now c.loop-byte.other c.loop-byte.least c.loop-byte.byte
    (omega (arith, c.loop-byte-test.false)) c.loop-byte.invariant.split
