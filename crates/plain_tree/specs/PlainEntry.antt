-- What an entry of a plain tree stands for.
use Rattle.std.specs.Prelude.{ℕ, ◌≤◌, List, Option, Some, None, take, IsSome}
use Rattle.names.specs.declared.limits.TheConstants.{LONGEST_COMPONENT}
use Rattle.plain_tree.specs.declared.entry.EntryKey.{EntryKey}
use Rattle.plain_tree.specs.declared.entry.PlainEntry.{PlainEntry}
use Rattle.plain_tree.specs.declared.entry.PlainEntry.TheVariants as entry
use Rattle.directory_tree.specs.Tree.{Tree, Entry, find}
use Rattle.directory_tree.specs.Walk.{Spot}
use Rattle.directory_tree.specs.Walk.Spot.{Root, Held}

abbrev pub key_component : EntryKey → List ℕ
key_component key = take key.count key.bytes

-- the entry at a place; the root stands in where there is none
abbrev pub spot_at : Option Entry → Spot
spot_at None = Root
spot_at (Some e) = Held e

abbrev pub means_in : Tree → PlainEntry → Spot
means_in t entry.Root = Root
means_in t (entry.Held key) = spot_at (find t.entries key.of (key_component key))

-- an entry that is in the tree
abbrev pub knows_in : Tree → PlainEntry → Type 0
knows_in t entry.Root = Unit {0}
knows_in t (entry.Held key) = (key.count ≤ LONGEST_COMPONENT) × IsSome (find t.entries key.of (key_component key))
