use Rattle.std.proofs.Common.{◌≡◌, drop}
use Rattle.storm_parts.specs.Fnv.{hash_on}
use Rattle.storm_parts.proofs.hash.Hash.and.Given as goal

abbrev pub invariant-loop-byte : goal.invariant-loop-byte
invariant-loop-byte l = record {
  on : hash_on l.hash (drop l.byte-index l.bytes) ≡ hash_on l.fn.self.hash l.bytes;
}
