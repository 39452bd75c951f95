-- The rows of an automaton as ranges of bytes with one target each.
use Rattle.std.specs.Prelude.{◌≡◌, ◌⊎◌, ℕ, ◌+◌, ◌<◌, ◌≤◌, List, [], ◌∷◌, ◌++◌, zero, suc, length, map, nat_le, drop, slice_index_or}
use Rattle.std.specs.Prelude.{if◌then◌else◌}
use Rattle.automaton_rows.specs.declared.range.TargetRange.{TargetRange}

-- the target of a byte: that of the first range that doesn't end before it
abbrev pub target_in : List TargetRange → ℕ → ℕ
target_in [] b = 0
target_in (r ∷ rest) b = if nat_le b r.last then r.target else target_in rest b

-- where the first range ends
abbrev pub ends_at : List TargetRange → ℕ
ends_at [] = 0
ends_at (r ∷ rest) = r.last

-- Ranges from a byte up to byte 255, one after the other. What follows them belongs to other rows.
abbrev pub IsRowFrom : ℕ → List TargetRange → Type 0
IsRowFrom from [] = ⊥
IsRowFrom from (r ∷ rest) = (from ≤ r.last) × ((r.last ≡ 255) ⊎ ((r.last < 255) × IsRowFrom (r.last + 1) rest))

-- the targets of `count` bytes from b on
unfoldable pub targets_from : List TargetRange → ℕ → ℕ → List ℕ
targets_from row b zero = []
targets_from row b (suc count) = target_in row b ∷ targets_from row (b + 1) count

-- The rows of 256 targets each. The ranges of one row follow those of the one before; `firsts` says where each row begins.
abbrev pub rows_of : List TargetRange → List ℕ → List (List ℕ)
rows_of ranges firsts = map (λ first. targets_from (drop first ranges) 0 256) firsts

-- each state has a row
abbrev pub AreRows : List TargetRange → List ℕ → Type 0
AreRows ranges firsts = (s : ℕ) → s < length firsts → IsRowFrom 0 (drop (slice_index_or firsts s 0) ranges)

-- a whole row, in which each byte has its target
pub record IsRowOf (holds : ℕ → ℕ → Type 0) (row : List TargetRange) : Type 0 where
  pub is_row : IsRowFrom 0 row
  pub targets : (c : ℕ) → c < 256 → holds c (target_in row c)

-- such a row follows what was there
abbrev pub IsRowAppended : (ℕ → ℕ → Type 0) → List TargetRange → List TargetRange → Type 0
IsRowAppended holds old new = (row : List TargetRange) × (new ≡ old ++ row) × IsRowOf holds row
