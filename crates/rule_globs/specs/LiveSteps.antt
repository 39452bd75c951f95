-- Live places by single steps: an item taken or left at a time.
use Rattle.std.specs.Prelude.{◌≡◌, ℕ, ◌+◌, List, [], ◌∷◌, IsTrue}
use Rattle.rule_globs.specs.Glob.{Glob, empty, one, run, cat, none, alt, ByteSet, fits, places}

-- a part of the pattern that is still to be taken, and the number of its first place
pub data Left : Type 0 where
  left : ℕ → Glob → Left

-- Some steps with these bytes lead from what is left to what is left then.
pub data Steps : List Left → List ℕ → List Left → Type 0 where
  stay : (rest : List Left) → Steps rest [] rest
  over_empty : (at : ℕ) (rest then : List Left) (bytes : List ℕ) → Steps rest bytes then → Steps (left at empty ∷ rest) bytes then
  into_cat : (at : ℕ) (a b : Glob) (rest then : List Left) (bytes : List ℕ) →
      Steps (left at a ∷ left (at + places a) b ∷ rest) bytes then → Steps (left at (cat a b) ∷ rest) bytes then
  into_first : (at : ℕ) (a b : Glob) (rest then : List Left) (bytes : List ℕ) →
      Steps (left at a ∷ rest) bytes then → Steps (left at (alt a b) ∷ rest) bytes then
  into_second : (at : ℕ) (a b : Glob) (rest then : List Left) (bytes : List ℕ) →
      Steps (left (at + places a) b ∷ rest) bytes then → Steps (left at (alt a b) ∷ rest) bytes then
  leave : (at : ℕ) (set : ByteSet) (rest then : List Left) (bytes : List ℕ) →
      Steps rest bytes then → Steps (left at (run set) ∷ rest) bytes then
  take_one : (at : ℕ) (set : ByteSet) (c : ℕ) (rest then : List Left) (bytes : List ℕ) → IsTrue (fits set c) →
      Steps rest bytes then → Steps (left at (one set) ∷ rest) (c ∷ bytes) then
  take_more : (at : ℕ) (set : ByteSet) (c : ℕ) (rest then : List Left) (bytes : List ℕ) → IsTrue (fits set c) →
      Steps (left at (run set) ∷ rest) bytes then → Steps (left at (run set) ∷ rest) (c ∷ bytes) then

-- The item at this place is first; nothing left is the end.
abbrev pub StandsAt : Glob → List Left → ℕ → Type 0
StandsAt g [] p = p ≡ places g
StandsAt g (left at (one set) ∷ rest) p = p ≡ at
StandsAt g (left at (run set) ∷ rest) p = p ≡ at
StandsAt g (left at empty ∷ rest) p = ⊥
StandsAt g (left at (cat a b) ∷ rest) p = ⊥
StandsAt g (left at none ∷ rest) p = ⊥
StandsAt g (left at (alt a b) ∷ rest) p = ⊥

-- some steps with the bytes leave this place first
abbrev pub IsLeftFirst : Glob → List ℕ → ℕ → Type 0
IsLeftFirst g bytes p = (rest : List Left) × Steps (left 0 g ∷ []) bytes rest × StandsAt g rest p
