-- What is still read from here on is what is read from the start on, with more room than bytes are left.
use Rattle.std.proofs.Common.{◌≡◌, ◌<◌, ℕ, suc, length}
use Rattle.apparmor_text.specs.Assignments.{values_at}
use Rattle.apparmor_text.proofs.reader.Reader.more_values.Given as goal

abbrev pub invariant-loop-self : goal.invariant-loop-self
invariant-loop-self l = (room : ℕ) × (length l.self.rest < room)
    × (values_at room l.self ≡ values_at (suc (length l.fn.self.rest)) l.fn.self)

abbrev pub decreases-loop-self : goal.decreases-loop-self
decreases-loop-self l = length l.self.rest
