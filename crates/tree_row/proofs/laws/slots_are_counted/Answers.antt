use Rattle.std.proofs.Common.{◌+◌, refl}
use Rattle.std.proofs.lemmas.Bool.{lt-ltb, le-ltb}
use Rattle.tree_row.specs.Slots.{slot_at}
use Rattle.tree_row.proofs.Counts.{room_free, room_full, room_most}
use Rattle.tree_row.proofs.laws.slots_are_counted.Goals as goal

pub returns-clause-free : goal.returns-clause-free
returns-clause-free c capacity s row t well enc free =
    lt-ltb _ _ (room_free (capacity + 1) (slot_at row) t enc.slots capacity s refl well.distinct free)

pub returns-clause-full : goal.returns-clause-full
returns-clause-full c capacity row t well enc full =
    le-ltb _ _ (room_full (capacity + 1) (slot_at row) t enc.slots capacity refl well.distinct full)

pub returns-clause-most : goal.returns-clause-most
returns-clause-most c capacity row t well enc = room_most (capacity + 1) (slot_at row) t enc.slots capacity refl well.distinct
