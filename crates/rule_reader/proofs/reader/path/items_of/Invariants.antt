-- The tokens so far, and what is still read, are the tokens of the path.
use Rattle.std.proofs.Common.{◌≡◌, ◌-◌, ◌≤◌, length, [], false}
use Rattle.rule_reader.specs.inner.PartialPaths.{tokens_in, braces_in}
use Rattle.rule_reader.specs.ReadPaths.{tokens_at}
use Rattle.rule_reader.proofs.ReadLoops.{with_front}
use Rattle.rule_reader.proofs.reader.path.items_of.Given as goal

abbrev pub invariant-loop-builder : goal.invariant-loop-builder
invariant-loop-builder l = record {
  few : l.count ≤ 1024;
  counted : length (tokens_in l.builder) ≡ l.count;
  so_far : with_front (tokens_in l.builder) (tokens_at l.quoted (1024 - l.count) (braces_in l.builder) l.after_slash l.rest)
      ≡ tokens_at l.quoted 1024 [] false l.bytes;
}

abbrev pub decreases-loop-builder : goal.decreases-loop-builder
decreases-loop-builder l = 1024 - l.count
