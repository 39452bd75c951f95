-- Byte 0 and the slash part the bytes, and then each class does.
use Rattle.std.proofs.Common.{[], ◌≤◌, length, slice_index_or, refl, subst}
use Rattle.glob_automaton.specs.inner.Alike.{IsSplit}
use Rattle.glob_automaton.proofs.AlikeBytes.{all_alike, no_class, next_class, parted_by_all}
use Rattle.glob_automaton.proofs.bytes.ByteClasses.of.Goals as goal

pub split-requires : goal.split-requires
split-requires c = all_alike 256 refl

pub loop-taken-init : goal.loop-taken-init
loop-taken-init c = record {
  parted = no_class c.args.chart.now.classes.items _ c.split.new.least c.split-2.new.least c.only.result c.only-2.result
      c.only.ensures c.only-2.ensures
      c.split.ensures c.split-2.ensures;
}

pub loop-taken-preserved : goal.loop-taken-preserved
loop-taken-preserved c = record {
  parted = next_class c.args.chart.now.classes.items c.loop-taken.least c.split-in-loop-taken.new.least c.loop-taken.taken-index
      c.loop-taken.invariant.parted
      (subst (λ z. IsSplit c.loop-taken.least (slice_index_or z c.loop-taken.taken-index []) c.split-in-loop-taken.new.least)
      c.deref-taken-items.ensures.value c.split-in-loop-taken.ensures);
}

pub returns-clause-alike : goal.returns-clause-alike
returns-clause-alike c = parted_by_all c.args.chart.now c.loop-taken.least c.loop-taken.taken-index
    (subst (λ z. length z ≤ c.loop-taken.taken-index) c.deref-taken-items.ensures.value c.loop-taken-test.false)
    c.loop-taken.invariant.parted
