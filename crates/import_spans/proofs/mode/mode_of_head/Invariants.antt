-- The mode so far, and the parts that are left, give the mode of all.
use Rattle.std.proofs.Common.{◌≡◌, drop}
use Rattle.import_spans.specs.Modes.{mode_with_parts, mode_of_head}
use Rattle.import_spans.proofs.mode.mode_of_head.Given as goal

abbrev pub invariant-loop-part : goal.invariant-loop-part
invariant-loop-part l = mode_with_parts l.mode (drop l.part-index l.parts) ≡ mode_of_head l.parts
