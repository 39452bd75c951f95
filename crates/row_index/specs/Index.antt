-- What the words of an index say: 0 is a free word, 1 a deleted one, and any other the number of a slot, plus 1.
use Rattle.std.specs.Prelude.{◌≡◌, ◌≢◌, ◌⊎◌, ℕ, ◌+◌, ◌<◌, ◌≤◌}
use Rattle.row_index.specs.Places.{around}

-- A search from a slot's home, going round, finds its word after this many others, none of which is 0.
pub record IsFound (size : ℕ) (word : ℕ → ℕ) (home s : ℕ) : Type 0 where
  pub steps : ℕ
  pub within : steps < size
  pub here : word (around size (home + steps)) ≡ s + 1
  pub reached : (i : ℕ) → i < steps → word (around size (home + i)) ≢ 0

-- Each used slot is named by exactly one word, to which a search from its home comes; every other word is 0 or 1.
pub record Indexes (size : ℕ) (word : ℕ → ℕ) (used : ℕ → Type 0) (home : ℕ → ℕ) : Type 0 where
  pub found : (s : ℕ) → used s → IsFound size word (home s) s
  pub once : (p q s : ℕ) → p < size → q < size → used s → word p ≡ s + 1 → word q ≡ s + 1 → p ≡ q
  pub others : (p : ℕ) → p < size → (word p ≤ 1) ⊎ ((s : ℕ) × used s × (word p ≡ s + 1))

-- the first word on the way from a home that is 0 or 1: this many places after it
pub record IsVacancy (size : ℕ) (word : ℕ → ℕ) (home steps : ℕ) : Type 0 where
  pub within : steps < size
  pub vacant : word (around size (home + steps)) ≤ 1
  pub first : (i : ℕ) → i < steps → 2 ≤ word (around size (home + i))

-- a search from a home ends after this many words: all were read, or the next one is 0
abbrev pub Ends : ℕ → (ℕ → ℕ) → ℕ → ℕ → Type 0
Ends size word home steps = (steps ≡ size) ⊎ (word (around size (home + steps)) ≡ 0)

-- no used slot is the root's, and the search for each begins at a place of the index
abbrev pub HaveHomes : ℕ → (ℕ → Type 0) → (ℕ → ℕ) → Type 0
HaveHomes size used home = (x : ℕ) → used x → (0 < x) × (home x < size)

-- one more slot is used, or one fewer
pub record IsOneMore (used used' : ℕ → Type 0) (s : ℕ) : Type 0 where
  pub past_root : 0 < s
  pub new : ¬ (used s)
  pub now : used' s
  pub more : (x : ℕ) → used x → used' x
  pub fewer : (x : ℕ) → used' x → (x ≡ s) ⊎ used x

pub record IsOneFewer (used used' : ℕ → Type 0) (s : ℕ) : Type 0 where
  pub old : used s
  pub more : (x : ℕ) → used x → x ≢ s → used' x
  pub fewer : (x : ℕ) → used' x → used x × (x ≢ s)
