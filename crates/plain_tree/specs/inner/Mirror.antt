-- A store that holds the entries of a tree.
use Rattle.std.specs.Prelude.{◌≡◌, ℕ, ◌<◌, ◌≤◌, ◌+◌, ◌^◌, ◌==◌, true, List, length, Option, Some, None, Ok, if◌then◌else◌}
use Rattle.std.specs.Option.{option_map}
use Rattle.names.specs.declared.limits.TheConstants.{LONGEST_COMPONENT}
use Rattle.plain_tree.specs.declared.directory.Node.{Node}
use Rattle.plain_tree.specs.declared.directory.Parent.{Parent}
use Rattle.directory_tree.specs.declared.node.NodeKind.{NodeKind}
use Rattle.directory_tree.specs.declared.node.NodeKind.TheVariants.{Directory, File, Link}
use Rattle.plain_tree.specs.declared.store.Store.{Store}
use Rattle.directory_tree.specs.Tree.{Tree, Entry, Has, root, find, own_entry, is_directory, is_empty}
use Rattle.directory_tree.specs.Apply.{tree_after, longest_link_text}
use Rattle.directory_tree.specs.Plain.{Plain, tree_of}
use Rattle.plain_tree.specs.inner.Store.{stored_node, stored_parent, new_parent}

abbrev pub node_for : Entry → Node
node_for e = record { number = e.node; kind = e.kind }

abbrev pub parent_for : Entry → Parent
parent_for e = new_parent e.of e.component

abbrev pub some_parent : Entry → Option Parent
some_parent e = Some (parent_for e)

-- where a directory of the tree is
abbrev pub stands_at : Tree → ℕ → Option (Option Parent)
stands_at t d = if d == root then Some None else option_map some_parent (own_entry t.entries d)

-- the store has just the entries and the directories of the tree
pub record Mirrors (s : Store) (t : Tree) : Type 0 where
  pub nodes : (d : ℕ) (c : List ℕ) → stored_node s d c ≡ option_map node_for (find t.entries d c)
  pub parents : (d : ℕ) → stored_parent s d ≡ stands_at t d

abbrev pub IsShortText : NodeKind → Type 0
IsShortText Directory = Unit {0}
IsShortText File = Unit {0}
IsShortText (Link text) = length text ≤ longest_link_text

pub record IsShort (e : Entry) : Type 0 where
  pub component_fits : length e.component ≤ LONGEST_COMPONENT
  pub text_fits : IsShortText e.kind

-- a plain tree's parts, and what it is worth: a store, the number of entries, the next number, the number of changes
pub record Holds (s : Store) (n number made : ℕ) (p : Plain) : Type 0 where
  pub capacity_fits : p.capacity < 2 ^ 64
  pub accepted : tree_after p.capacity p.history ≡ Ok (tree_of p)
  pub mirrors : Mirrors s (tree_of p)
  pub entries : n ≡ length (tree_of p).entries
  pub next : number ≡ (tree_of p).next
  pub version : made ≡ length p.history
  pub few : number ≤ made + 2
  pub short : (d : ℕ) (c : List ℕ) (e : Entry) → Has (tree_of p) d c e → IsShort e

-- a directory has no entry
abbrev pub IsEmptied : Tree → Option Entry → Type 0
IsEmptied t None = Unit {0}
IsEmptied t (Some e) = is_directory e.kind ≡ true → is_empty t.entries e.node ≡ true

-- not two entries of one node
abbrev pub AreOther : Option Entry → Option Entry → Type 0
AreOther None b = Unit {0}
AreOther (Some e) None = Unit {0}
AreOther (Some e) (Some z) = z.node ≡ e.node → ⊥
