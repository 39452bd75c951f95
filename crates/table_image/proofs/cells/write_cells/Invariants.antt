use Rattle.std.proofs.Common.{take}
use Rattle.table_image.specs.inner.PackSteps.{IsWritten}
use Rattle.table_image.proofs.cells.write_cells.Given as goal

abbrev pub invariant-loop-byte : goal.invariant-loop-byte
invariant-loop-byte l = IsWritten l.fn.next l.fn.check l.fn.taken l.next l.check l.taken l.targets
    (take l.byte-index l.bytes) l.base l.state
