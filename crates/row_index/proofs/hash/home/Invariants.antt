use Rattle.std.proofs.Common.{◌≡◌, ◌<◌, drop}
use Rattle.row_index.specs.Hashes.{hash_on}
use Rattle.row_index.proofs.hash.home.Given as goal

abbrev pub invariant-loop-byte : goal.invariant-loop-byte
invariant-loop-byte l = record {
  small : l.hash < 4294967296;
  on : hash_on l.hash (drop l.byte-index l.component) ≡ hash_on l.fn.directory l.component;
}
