use Rattle.std.proofs.Common.{◌≡◌, ℕ, ◌+◌, ◌*◌, ◌%◌, ◌^◌, ◌≤◌, length, drop, bit_xor, sym, ap, ◌∙◌, arith}
use Rattle.storm_parts.specs.Fnv.{hash_on}
use Rattle.storm_parts.proofs.Fnv.{hash_step, hash_done}
use Rattle.storm_parts.proofs.hash.Hash.and.Goals as goal

pub loop-byte-preserved : goal.loop-byte-preserved
loop-byte-preserved c = record {
  on =
      ap (λ (b : ℕ). hash_on (bit_xor c.loop-byte.hash b * 1099511628211 % 2 ^ 64) (drop (c.loop-byte.byte-index + 1) c.args.bytes.now))
      c.from.ensures
      ∙ sym (hash_step c.loop-byte.hash c.loop-byte.byte-index c.args.bytes.now (omega arith)) ∙ c.loop-byte.invariant.on;
}

pub returns-clause-hash : goal.returns-clause-hash
returns-clause-hash c =
    let l : length c.args.bytes.now ≤ c.loop-byte.byte-index = omega arith in
    sym (hash_done c.loop-byte.hash c.loop-byte.byte-index c.args.bytes.now l) ∙ c.loop-byte.invariant.on
