-- Reading part by part: what was read of an item, and what is left.
use Rattle.std.specs.Prelude.{ℕ, ◌-◌, ◌==◌, List, [], ◌∷◌, ◌++◌, length, take, drop, if◌then◌else◌}
use Rattle.apparmor_text.specs.declared.part.PartKind.{PartKind}
use Rattle.apparmor_text.specs.Parts.{PartValue}

-- the parts that were read since the item began, and the bytes that are left
pub record Reading : Type 0 where
  pub parts : List PartValue
  pub rest : List ℕ

-- the first n bytes of what is left become a part, unless there are none
abbrev pub taken : PartKind → ℕ → Reading → Reading
taken kind n s =
    if length (take n s.rest) == 0 then s
    else record { parts = s.parts ++ (record { kind = kind; bytes = take n s.rest } ∷ []); rest = drop n s.rest }

-- the bytes before these, with which what is left ends, become a part
abbrev pub taken_to : PartKind → List ℕ → Reading → Reading
taken_to kind rest s = taken kind (length s.rest - length rest) s
