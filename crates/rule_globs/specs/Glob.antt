-- What a pattern over the bytes of a name is, which lists of bytes it matches as a whole (apparmor.d(5), "Globbing"), and its
-- places: the positions at which a match can be.
pub use Rattle.names.specs.Paths.{is_slash}
use Rattle.std.specs.Prelude.{◌≡◌, ℕ, ◌+◌, Bool, true, not, ◌&&◌, ◌⊎◌, ◌==◌, List, [], ◌∷◌, ◌++◌, IsTrue, nat_lt, nat_le, if◌then◌else◌}
use Rattle.std.specs.List.{list_all, list_any}
use Rattle.rule_globs.specs.declared.items.ByteRange.{ByteRange}

-- the bytes from one to another
abbrev pub range : ℕ → ℕ → ByteRange
range first last = record { first = first; last = last }

-- a range of one
abbrev pub single : ℕ → ByteRange
single b = range b b

-- a class as it is written: whether it is negated, and its ranges in their order; a single byte is a range of one
pub record ClassValue : Type 0 where
  pub negated : Bool
  pub ranges : List ByteRange

-- which bytes an item takes, one at a time
pub data ByteSet : Type 0 where
  -- that byte
  exactly : ℕ → ByteSet
  -- any byte but a slash
  not_slash : ByteSet
  -- any byte, a slash too
  every_byte : ByteSet
  -- a class: whether it is negated, and its ranges. A slash is a byte like others here (our choice)
  class : Bool → List ByteRange → ByteSet

abbrev pub in_range : ByteRange → ℕ → Bool
in_range range b = nat_le range.first b && nat_le b range.last

abbrev pub in_ranges : List ByteRange → ℕ → Bool
in_ranges ranges b = list_any (λ range. in_range range b) ranges

abbrev pub contains : ByteSet → ℕ → Bool
contains (exactly a) b = a == b
contains not_slash b = not (is_slash b)
contains every_byte b = true
contains (class negated ranges) b = if negated then not (in_ranges ranges b) else in_ranges ranges b

-- byte 0 is taken by nothing (our choice)
abbrev pub fits : ByteSet → ℕ → Bool
fits set b = nat_lt 0 b && contains set b

-- A pattern. Each kind of item is one of these: a strict run of stars is one byte that isn't a slash, and then a run.
pub data Glob : Type 0 where
  -- the list without bytes alone
  empty : Glob
  -- one byte of the set
  one : ByteSet → Glob
  -- any number of bytes of the set
  run : ByteSet → Glob
  -- one after another
  cat : Glob → Glob → Glob
  -- nothing at all: a choice without alternatives
  none : Glob
  -- one or the other
  alt : Glob → Glob → Glob

-- The pattern matches the bytes: in parts, each item its part.
abbrev pub Takes : Glob → List ℕ → Type 0
Takes empty bytes = bytes ≡ []
Takes (one set) bytes = (b : ℕ) × (bytes ≡ b ∷ []) × IsTrue (fits set b)
Takes (run set) bytes = IsTrue (list_all (fits set) bytes)
Takes (cat a b) bytes = (front : List ℕ) × (back : List ℕ) × (bytes ≡ front ++ back) × Takes a front × Takes b back
Takes none bytes = ⊥
Takes (alt a b) bytes = Takes a bytes ⊎ Takes b bytes

-- how many places a pattern has, its end not among them
abbrev pub places : Glob → ℕ
places empty = 0
places (one set) = 1
places (run set) = 1
places (cat a b) = places a + places b
places none = 0
places (alt a b) = places a + places b

-- The place `p` may take the next byte once `bytes` are taken: by what is before it and, where it is a run, by the run too.
abbrev pub Live : Glob → List ℕ → ℕ → Type 0
Live empty bytes p = ⊥
Live (one set) bytes p = (p ≡ 0) × (bytes ≡ [])
Live (run set) bytes p = (p ≡ 0) × IsTrue (list_all (fits set) bytes)
Live (cat a b) bytes p = Live a bytes p ⊎
    ((q : ℕ) × (front : List ℕ) × (back : List ℕ) × (p ≡ places a + q) × (bytes ≡ front ++ back) × Takes a front × Live b back q)
Live none bytes p = ⊥
Live (alt a b) bytes p = Live a bytes p ⊎ ((q : ℕ) × (p ≡ places a + q) × Live b bytes q)

-- The end is live once the whole pattern is taken. It is the place after all others.
abbrev pub LiveOrEnd : Glob → List ℕ → ℕ → Type 0
LiveOrEnd g bytes p = Live g bytes p ⊎ ((p ≡ places g) × Takes g bytes)
