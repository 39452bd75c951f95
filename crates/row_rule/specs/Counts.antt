-- What the count, the first word of a row, means, and what a walk saw by the two counts that it read first and last.
use Rattle.std.specs.Prelude.{◌≡◌, ◌≢◌, ◌⊎◌, ℕ, ◌+◌, ◌%◌}
use Rattle.row_rule.specs.declared.count.Busy.{Busy}

-- the version that an even count stands for
abbrev pub IsVersion : ℕ → ℕ → Type 0
IsVersion count version = count ≡ version + version

-- a change is being made
abbrev pub IsOdd : ℕ → Type 0
IsOdd count = count % 2 ≡ 1

-- both counts are the one even count of this version
abbrev pub IsStill : ℕ → ℕ → ℕ → Type 0
IsStill began ended version = (began ≡ version + version) × (ended ≡ began)

-- the two counts, of which the first is odd, or which differ
abbrev pub IsDisturbed : ℕ → ℕ → Busy → Type 0
IsDisturbed began ended busy = (busy.began ≡ began) × (busy.ended ≡ ended) × (IsOdd began ⊎ (ended ≢ began))
