-- None is packed at first, and all at last.
use Rattle.std.proofs.Common.{◌∙◌, length, sym, ap, arith}
use Rattle.tables.specs.Tables.{table_value}
use Rattle.table_image.proofs.ChainedTables.{chained_table}
use Rattle.table_image.proofs.PackedStates.{none_packed}
use Rattle.table_image.proofs.PackedTables.{all_chained}
use Rattle.table_image.proofs.packer.pack_states.Goals as goal

pub loop-state-init : goal.loop-state-init
loop-state-init c = record {
  same = c.new-6.ensures.items ∙ sym c.new-10.ensures.empty;
  bound = omega arith;
  counts = sym c.resize.new.self.ok.0 ∙ c.in_ok-resize.ensures.len ∙ c.states-2.ensures.count;
  starts = c.in_ok-new.ensures c.new-8.result;
  packed = none_packed c.args.dfa.now _ c.new-8.result (ap length c.new.ensures.items) (ap length c.new-2.ensures.items)
      (ap length c.new-3.ensures.items)
      (ap length c.new-4.ensures.items) (ap length c.new-5.ensures.items) (ap length c.new-6.ensures.items)
      (ap length c.new-7.ensures.items) c.new-8.ensures.none c.new-8.ensures.free;
}

pub returns-clause-table : goal.returns-clause-table
returns-clause-table c =
    let whole = c.states.ensures.whole in
    let count = c.states.ensures.count in
    let table = table_value c.loop-state.packing.table in
    chained_table c.args.dfa.now table whole
    (all_chained c.args.dfa.now table c.loop-state.packing.taken c.loop-state.state
    (omega (arith, c.max-states.ensures, c.loop-state-test.false))
    (omega (arith, c.max-states.ensures, c.loop-state-test.false, count))
    (omega (arith, c.max-states.ensures, c.loop-state.auto.state-end, count, whole.few))
    c.loop-state.invariant.packed)
