-- The ranges so far, and what is still read, are those of the class.
use Rattle.std.proofs.Common.{◌≡◌, ◌≤◌, length, false}
use Rattle.rule_reader.specs.declared.reader.class.Pending.TheVariants.{Start}
use Rattle.rule_reader.specs.ReadClasses.{members_at}
use Rattle.rule_reader.proofs.ReadLoops.{with_front}
use Rattle.rule_reader.proofs.reader.class.members_of.Given as goal

abbrev pub invariant-loop-rest : goal.invariant-loop-rest
invariant-loop-rest l = record {
  within : length l.rest ≤ length l.bytes;
  so_far : with_front l.ranges.items (members_at l.quoted l.bracket l.pending l.escaped l.rest)
      ≡ members_at l.quoted l.bracket Start false l.bytes;
}

abbrev pub decreases-loop-rest : goal.decreases-loop-rest
decreases-loop-rest l = length l.rest
