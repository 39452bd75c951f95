use Rattle.std.proofs.Common.{◌≡◌, ℕ, ◌+◌, ◌*◌, ◌%◌, ◌≤◌, length, drop, sym, ap, ◌∙◌, arith}
use Rattle.row_index.specs.Hashes.{hash_on, home}
use Rattle.row_index.specs.laws.Homes.{hash_done, hash_step, masked, wrapped_sum}
use Rattle.row_index.proofs.hash.home.Goals as goal

pub loop-byte-preserved : goal.loop-byte-preserved
loop-byte-preserved c = record {
  small = omega arith;
  on =
      ap (λ (b : ℕ). hash_on b (drop (c.loop-byte.byte-index + 1) c.args.component.now)) (wrapped_sum c.loop-byte.hash c.from.result)
      ∙ ap (λ (b : ℕ). hash_on ((c.loop-byte.hash * 31 + b) % 4294967296) (drop (c.loop-byte.byte-index + 1) c.args.component.now))
      c.from.ensures
      ∙ sym (hash_step c.loop-byte.hash c.loop-byte.byte-index c.args.component.now (omega arith)) ∙ c.loop-byte.invariant.on;
}

pub returns-clause-home : goal.returns-clause-home
unfolding home
returns-clause-home c =
    let l : length c.args.component.now ≤ c.loop-byte.byte-index = omega arith in
    let done = sym (hash_done c.loop-byte.hash c.loop-byte.byte-index c.args.component.now l) in
    let e : c.loop-byte.hash ≡ hash_on c.args.directory c.args.component.now = done ∙ c.loop-byte.invariant.on in
    masked c.loop-byte.hash c.args.size c.requires.size.0 c.requires.size.1 ∙ ap (λ (z : ℕ). z % c.args.size) e
