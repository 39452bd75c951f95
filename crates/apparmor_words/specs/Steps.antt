-- The result of reading a part of a text: a value, or the first fault.
use Rattle.std.specs.Prelude.{ℕ, List, length, Result, Ok, Err}

-- what is wrong with a text
pub data StopKind : Type 0 where
  -- the grammar doesn't allow what follows
  syntax : StopKind
  -- an include: the text is not flattened
  include : StopKind
  -- a word, a byte or a flag that is not supported
  left_out : List ℕ → StopKind
  -- letters that are no permissions, or not allowed in this rule
  permissions : StopKind

-- a fault, and how many bytes of the text are left from its place on
pub record Stop : Type 0 where
  pub kind : StopKind
  pub left : ℕ

-- one step after another: the first fault is returned
infixl 10 ◌>>=◌
abbrev pub ◌>>=◌ : {A B : Type 0} → Result A Stop → (A → Result B Stop) → Result B Stop
(Ok x) >>= f = f x
(Err s) >>= f = Err s

-- a fault at the first of these bytes
abbrev pub fault_here : {A : Type 0} → StopKind → List ℕ → Result A Stop
fault_here kind bytes = Err (record { kind = kind; left = length bytes })

abbrev pub syntax_here : {A : Type 0} → List ℕ → Result A Stop
syntax_here bytes = fault_here syntax bytes
