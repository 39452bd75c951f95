-- The live places move on by a block of bytes, in one pass over the pattern. Only inner contracts use passes.
use Rattle.std.specs.Prelude.{ℕ, ◌+◌, ◌-◌, ◌*◌, ◌%◌, ◌^◌, List, Bool, false, get_or, set, length, bit_and, bit_or, bit_xor}
use Rattle.rule_globs.specs.Glob.{Glob, empty, one, run, cat, none, alt}
use Rattle.rule_globs.specs.inner.Blocks.{bit, taken}
use Rattle.rule_globs.specs.inner.ByteBits.{has_bit}

-- A pass is before `place`, bit i of `reached` says whether that is reached after byte i, and `live` has a bit for each
-- place: those before `place` are of after the block, the others of before it.
pub record Pass : Type 0 where
  pub place : ℕ
  pub reached : ℕ
  pub live : List Bool

-- Bit i says whether a place is live before byte i, where it is live exactly when it is reached.
abbrev pub before_each : Bool → ℕ → ℕ
before_each here reached = bit_or (reached * 2 ^ 1 % 2 ^ 64) (bit here)

-- What is carried into each bit of the sum of two words: into bit 0, one if `here`
abbrev pub carries : Bool → ℕ → ℕ → ℕ
carries here x y = bit_xor (bit_xor (((x + y) % 2 ^ 64 + bit here) % 2 ^ 64) x) y

-- A run is left where it is reached, and where it is live and takes the byte. That is how a carry goes through a sum: it is
-- generated where both words have a bit, and propagated where one of them has.
abbrev pub through : Bool → ℕ → ℕ → ℕ
through here reached taken = bit_or reached (bit_and taken (carries here reached (bit_or reached taken)))

-- Over one byte of a set: what follows is reached where the place was live and the byte is of the set.
abbrev pub pass_one : ℕ → ℕ → Pass → Pass
pass_one count taken s = record {
  place = s.place + 1;
  reached = bit_and (before_each (get_or s.live s.place false) s.reached) taken;
  live = set s.live s.place (has_bit s.reached (count - 1));
}

-- Over a run: its place is live where what follows is reached.
abbrev pub pass_run : ℕ → ℕ → Pass → Pass
pass_run count taken s = record {
  place = s.place + 1;
  reached = through (get_or s.live s.place false) s.reached taken;
  live = set s.live s.place (has_bit (through (get_or s.live s.place false) s.reached taken) (count - 1));
}

-- the second alternative begins as the first did, and the end of both is reached where that of one of them is
abbrev pub join : ℕ → Pass → Pass
join reached s = record { place = s.place; reached = bit_or reached s.reached; live = s.live }

abbrev pub restart : ℕ → Pass → Pass
restart reached s = record { place = s.place; reached = reached; live = s.live }

unfoldable pub sweep : Glob → List ℕ → Pass → Pass
sweep empty block s = s
sweep (one set) block s = pass_one (length block) (taken set block) s
sweep (run set) block s = pass_run (length block) (taken set block) s
sweep (cat a b) block s = sweep b block (sweep a block s)
sweep none block s = restart 0 s
sweep (alt a b) block s = join (sweep a block s).reached (sweep b block (restart s.reached (sweep a block s)))
