-- Putting the parts that are left is putting them all.
use Rattle.std.proofs.Common.{◌≡◌, drop}
use Rattle.import_spans.specs.CutStates.{put_parts}
use Rattle.import_spans.proofs.cut.Cut.put_parts.Given as goal

abbrev pub invariant-loop-part : goal.invariant-loop-part
invariant-loop-part l = put_parts l.telling (drop l.part-index l.parts) l.self ≡ put_parts l.telling l.parts l.initial.self
