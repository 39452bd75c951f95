-- The mode so far, and the flags that are left, give the mode of all.
use Rattle.std.proofs.Common.{◌≡◌, length}
use Rattle.apparmor_words.specs.Conditions.{flags_at}
use Rattle.import_spans.specs.Modes.{mode_with, mode_of_flags}
use Rattle.import_spans.proofs.mode.mode_of_flags.Given as goal

abbrev pub invariant-loop-rest : goal.invariant-loop-rest
invariant-loop-rest l = mode_with l.mode (flags_at l.begins l.rest) ≡ mode_of_flags l.bytes

abbrev pub decreases-loop-rest : goal.decreases-loop-rest
decreases-loop-rest l = length l.rest
