use Rattle.std.proofs.Common.{◌≡◌, ◌<◌, ◌≤◌, true, length, take}
use Rattle.names.specs.Paths.{filled_parts, ends_with_slash}
use Rattle.path_lookup.proofs.target.without_end_slashes.Given as goal

abbrev pub invariant-loop-end : goal.invariant-loop-end
invariant-loop-end l = (l.end ≤ length l.text) × (filled_parts (take l.end l.text) ≡ filled_parts l.text)
    × (l.end < length l.text → ends_with_slash l.text ≡ true)

abbrev pub decreases-loop-end : goal.decreases-loop-end
decreases-loop-end l = l.end
