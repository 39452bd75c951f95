use Rattle.table_image.proofs.StartSlots.{one_slot_more}
use Rattle.table_image.proofs.starts.Starts.new.Goals as goal

pub loop-slot-preserved : goal.loop-slot-preserved
loop-slot-preserved c = record {
  slots = one_slot_more c.loop-slot.slots.items c.push_slot.new.slots.items c.loop-slot.invariant.slots
      c.in_ok-push_slot.ensures;
}
