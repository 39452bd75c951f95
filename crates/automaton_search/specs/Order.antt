-- The order of names (our choice): by length, and in byte order begun at `a` where the lengths are equal. So the least name that a
-- pattern matches is one to read, as `/etc/a` for `/etc/**`.
use Rattle.std.specs.Prelude.{◌≡◌, ◌⊎◌, ℕ, ◌<◌, ◌+◌, ◌-◌, List, [], ◌∷◌, length, nat_lt, if◌then◌else◌}
use Rattle.names.specs.Ascii as ascii

-- The place of a byte in this order: 97, which is `a`, to 255 come first, then 0 to 96. What is no byte comes after all bytes.
abbrev pub place_of : ℕ → ℕ
place_of b = if nat_lt b ascii.letter_a then b + 159 else (if nat_lt b 256 then b - ascii.letter_a else b)

-- where they first differ, the first has the byte that comes earlier
abbrev pub IsBefore : List ℕ → List ℕ → Type 0
IsBefore [] v = ⊥
IsBefore (a ∷ u) [] = ⊥
IsBefore (a ∷ u) (b ∷ v) = (place_of a < place_of b) ⊎ ((a ≡ b) × IsBefore u v)

-- the first is shorter, or they are equally long and it comes first by their bytes
abbrev pub IsLess : List ℕ → List ℕ → Type 0
IsLess u v = (length u < length v) ⊎ ((length u ≡ length v) × IsBefore u v)

abbrev pub IsAtMost : List ℕ → List ℕ → Type 0
IsAtMost u v = (u ≡ v) ⊎ IsLess u v
