-- Names judged in parts.
use Rattle.std.specs.Prelude.{◌≡◌, ℕ, ◌+◌, ◌<◌, List, Option, Some, None, slice_get}
use Rattle.names.specs.declared.permissions.Perms.{Perms}
use Rattle.tables.specs.Tables.{Table}
use Rattle.table_batches.specs.Batches.{name_at as part_name_at}
use Rattle.image_judge.specs.Answers.{IsToldByTable, no_answer}
use Rattle.image_judge.specs.Batches.{name_at}
use Rattle.image_judge.specs.declared.answer.Answer.{Answer}

-- what a table says of a name, if there is one
abbrev pub IsToldAt : Table → Perms → Option (List ℕ) → Answer → Type 0
IsToldAt t ask None a = a ≡ no_answer
IsToldAt t ask (Some name) a = IsToldByTable t ask name a

-- the answers before a place are those of their names
abbrev pub AreToldTo : Table → Perms → List ℕ → List ℕ → ℕ → List Answer → Type 0
AreToldTo t ask names offsets place answers =
    (i : ℕ) (a : Answer) → i < place → slice_get answers i ≡ Some a → IsToldAt t ask (name_at names offsets i) a

-- a part of the offsets has the names from one on
abbrev pub ArePartsNames : List ℕ → List ℕ → List ℕ → ℕ → ℕ → Type 0
ArePartsNames names offsets part first count =
    (i : ℕ) → i < count → name_at names offsets (first + i) ≡ Some (part_name_at names part i)
