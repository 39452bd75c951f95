-- Each flag that the loop has passed is known.
use Rattle.std.proofs.Common.{◌≡◌, length, find, not}
use Rattle.apparmor_words.specs.Conditions.{flags_at, is_flag, unknown_flag}
use Rattle.apparmor_words.proofs.condition.unknown_flag.Given as goal

abbrev pub invariant-loop-rest : goal.invariant-loop-rest
invariant-loop-rest l = find (λ w. not (is_flag w)) (flags_at l.begins l.rest) ≡ unknown_flag l.bytes

abbrev pub decreases-loop-rest : goal.decreases-loop-rest
decreases-loop-rest l = length l.rest
