-- The parts of a flattened profile text, and its items: each byte of the text is in one part, as it is written.
use Rattle.std.specs.Prelude.{ℕ, List}
use Rattle.std.specs.List.{flat_map}
use Rattle.apparmor_text.specs.declared.part.PartKind.{PartKind}
use Rattle.apparmor_text.specs.declared.part.ItemKind.{ItemKind}

-- a part: what it is there for, and its bytes
pub record PartValue : Type 0 where
  pub kind : PartKind
  pub bytes : List ℕ

-- an item: a blank, an assignment to a variable, a statement, what opens or closes a profile, a file rule
pub record ItemValue : Type 0 where
  pub kind : ItemKind
  pub parts : List PartValue

-- the bytes of parts, one after another
abbrev pub bytes_of_parts : List PartValue → List ℕ
bytes_of_parts parts = flat_map (λ part. part.bytes) parts

-- the bytes of items, one after another
abbrev pub bytes_of_items : List ItemValue → List ℕ
bytes_of_items items = flat_map (λ item. bytes_of_parts item.parts) items
