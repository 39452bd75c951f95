use Rattle.std.proofs.Common.{◌≡◌, take}
use Rattle.plain_tree.proofs.entry.copy_to_front.Given as goal

abbrev pub invariant-loop-i : goal.invariant-loop-i
invariant-loop-i l = take l.i l.room ≡ take l.i l.bytes
