-- The places of an index: how many there are, and how they go round.
use Rattle.std.specs.Prelude.{ℕ, zero, suc, ◌+◌, ◌-◌, ◌*◌, nat_lt, if◌then◌else◌}

-- After the last place comes the first: the place that is this many places after the first, for numbers below twice the size.
unfoldable pub around : ℕ → ℕ → ℕ
around size n = if nat_lt n size then n else n - size

-- how many places lie on the way from one place to another, going round
unfoldable pub way : ℕ → ℕ → ℕ → ℕ
way size from to = if nat_lt to from then to + size - from else to - from

-- the least power of two that is `n` or more, from `power` on, in at most this many doublings
unfoldable pub doubled_to : ℕ → ℕ → ℕ → ℕ
doubled_to zero n power = power
doubled_to (suc most) n power = if nat_lt power n then doubled_to most n (2 * power) else power

-- The number of places of an index for this many entries: the least power of two that is twice as many or more. The law
-- `index_lengths_are_least_powers` says that it is.
unfoldable pub index_length : ℕ → ℕ
index_length capacity = doubled_to (2 * capacity) (2 * capacity) 1
