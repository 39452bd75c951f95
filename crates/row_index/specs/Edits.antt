-- What insertions and removals set among the words of an index, which are in a row from a place on.
use Rattle.std.specs.Prelude.{◌≡◌, ℕ, zero, suc, ◌+◌, ◌-◌, ◌<◌, ◌==◌, ◌&&◌, nat_lt, Bool, List, slice_index, slice_set}
use Rattle.std.specs.Prelude.{if◌then◌else◌}
use Rattle.row_index.specs.Places.{around, way}
use Rattle.row_index.specs.Index.{IsVacancy}

-- the words of an index, by their places in it
abbrev pub index_at : List ℕ → ℕ → ℕ → ℕ
index_at row base p = slice_index row (base + p)

abbrev pub with_word : List ℕ → ℕ → ℕ → ℕ → List ℕ
with_word row base p word = slice_set row (base + p) word

abbrev pub place_after : ℕ → ℕ → ℕ
place_after size p = around size (p + 1)

abbrev pub place_before : ℕ → ℕ → ℕ
place_before size p = around size (p + (size - 1))

-- An insertion takes the first word on the way that is 0 or 1.
abbrev pub Inserts : ℕ → ℕ → ℕ → ℕ → List ℕ → List ℕ → Type 0
Inserts base size home s row after = (steps : ℕ) × IsVacancy size (index_at row base) home steps
    × (after ≡ with_word row base (around size (home + steps)) (s + 1))

-- the deleted words from a place on, going back, at most this many, become free
unfoldable pub swept : ℕ → ℕ → List ℕ → ℕ → ℕ → List ℕ
swept base size row p zero = row
swept base size row p (suc most) =
    if index_at row base p == 1 then swept base size (with_word row base p 0) (place_before size p) most else row

-- a place becomes free, and so do the deleted words directly before it
abbrev pub freed : ℕ → ℕ → List ℕ → ℕ → List ℕ
freed base size row p = swept base size (with_word row base p 0) (place_before size p) size

-- a word names a slot whose way from its home to the place `at` passes the place `between`
abbrev pub passes : ℕ → (ℕ → ℕ) → ℕ → ℕ → ℕ → Bool
passes size home word between at = nat_lt 1 word && nat_lt (way size (home (word - 1)) between) (way size (home (word - 1)) at)

-- The place `p` is vacated. Of the words from `q` on, at most this many and none from a 0 on, each whose slot's way passes the
-- vacated place moves there, and vacates its own place. Where a 0 was met, no way passes the place that is vacated at last, and it
-- is freed; otherwise it is deleted. (Knuth, The Art of Computer Programming, volume 3, section 6.4, algorithm R)
unfoldable pub vacated : ℕ → ℕ → (ℕ → ℕ) → List ℕ → ℕ → ℕ → ℕ → List ℕ
vacated base size home row p q zero = with_word row base p 1
vacated base size home row p q (suc most) =
    if index_at row base q == 0 then freed base size row p
    else if passes size home (index_at row base q) p q
    then vacated base size home (with_word row base p (index_at row base q)) q (place_after size q) most
    else vacated base size home row p (place_after size q) most

-- A removal vacates the place of the slot's word.
abbrev pub Removes : ℕ → ℕ → (ℕ → ℕ) → ℕ → List ℕ → List ℕ → Type 0
Removes base size home s row after = (p : ℕ) × (p < size) × (index_at row base p ≡ s + 1)
    × (after ≡ vacated base size home row p (place_after size p) (size - 1))
