-- A directory tree as the list of its entries (path_resolution(7), inode(7)). Node 1 is the root, a directory that has no entry.
-- The kind of a node is stored in each of its entries, so a node is gone once its last entry is removed.
use Rattle.std.specs.Prelude.{◌≡◌, ℕ, zero, suc, ◌<◌, ◌==◌, ◌&&◌, Bool, true, false, List, [], ◌∷◌, Option, Some, None, if◌then◌else◌}
use Rattle.std.specs.Prelude.{bytes_eq}
use Rattle.directory_tree.specs.declared.node.NodeKind.{NodeKind}
use Rattle.directory_tree.specs.declared.node.NodeKind.TheVariants.{Directory, File, Link}
use Rattle.directory_tree.specs.Components.{IsComponent}

-- an entry: the number of the directory that has it, its component there, and the node that it refers to
pub record Entry : Type 0 where
  pub of : ℕ
  pub component : List ℕ
  pub node : ℕ
  pub kind : NodeKind

-- the entries, whose order means nothing, and the number of the next node
pub record Tree : Type 0 where
  pub entries : List Entry
  pub next : ℕ

abbrev pub root : ℕ
root = 1

-- the root alone
abbrev pub root_alone : Tree
root_alone = record { entries = []; next = 2 }

abbrev pub is_directory : NodeKind → Bool
is_directory Directory = true
is_directory File = false
is_directory (Link text) = false

abbrev pub is_link : NodeKind → Bool
is_link Directory = false
is_link File = false
is_link (Link text) = true

-- the entry is at this place
abbrev pub is_at : ℕ → List ℕ → Entry → Bool
is_at of component e = (e.of == of) && bytes_eq e.component component

-- the entry of a component in a directory
abbrev pub find : List Entry → ℕ → List ℕ → Option Entry
find [] of component = None
find (e ∷ es) of component = if is_at of component e then Some e else find es of component

-- the entry of a directory, by which it is below another; the root has none
abbrev pub own_entry : List Entry → ℕ → Option Entry
own_entry [] node = None
own_entry (e ∷ es) node = if (e.node == node) && is_directory e.kind then Some e else own_entry es node

-- the kind of a node: that of any of its entries (`WellFormed`: they agree)
abbrev pub entry_kind : List Entry → ℕ → Option NodeKind
entry_kind [] node = None
entry_kind (e ∷ es) node = if e.node == node then Some e.kind else entry_kind es node

abbrev pub kind_of : Tree → ℕ → Option NodeKind
kind_of t node = if node == root then Some Directory else entry_kind t.entries node

-- this directory has no entry
abbrev pub is_empty : List Entry → ℕ → Bool
is_empty [] of = true
is_empty (e ∷ es) of = if e.of == of then false else is_empty es of

-- whether x is d or lies below it, within this many steps up
abbrev pub is_below : List Entry → ℕ → ℕ → ℕ → Bool
is_below es zero d x = x == d
is_below es (suc n) d x = if x == d then true else elim (own_entry es x) [ None ↦ false | Some e ↦ is_below es n d e.of ]

-- whether this many steps up, or fewer, lead from a directory to the root
abbrev pub leads : List Entry → ℕ → ℕ → Bool
leads es zero d = d == root
leads es (suc n) d = if d == root then true else elim (own_entry es d) [ None ↦ false | Some e ↦ leads es n e.of ]

-- no two entries have the same directory and component
abbrev pub Distinct : List Entry → Type 0
Distinct [] = Unit {0}
Distinct (e ∷ es) = (find es e.of e.component ≡ None) × Distinct es

-- the tree has this entry there
abbrev pub Has : Tree → ℕ → List ℕ → Entry → Type 0
Has t d c e = find t.entries d c ≡ Some e

-- What every change keeps. No two entries are at one place; each entry's node is over that of the root and below the next number;
-- the entries of a node agree on its kind; a directory has one entry; what has an entry leads up to the root; and the component is
-- one that an entry can have.
pub record WellFormed (t : Tree) : Type 0 where
  pub distinct : Distinct t.entries
  pub past_root : root < t.next
  pub low : (d : ℕ) (c : List ℕ) (e : Entry) → Has t d c e → (root < e.node) × (e.node < t.next)
  pub one_kind : (d : ℕ) (c : List ℕ) (d' : ℕ) (c' : List ℕ) (e e' : Entry) → Has t d c e → Has t d' c' e' → e.node ≡ e'.node →
      e.kind ≡ e'.kind
  pub one_entry : (d : ℕ) (c : List ℕ) (d' : ℕ) (c' : List ℕ) (e e' : Entry) → Has t d c e → Has t d' c' e' → e.node ≡ e'.node →
      is_directory e.kind ≡ true → e ≡ e'
  pub rooted : (d : ℕ) (c : List ℕ) (e : Entry) → Has t d c e → (n : ℕ) × (leads t.entries n d ≡ true)
  pub named : (d : ℕ) (c : List ℕ) (e : Entry) → Has t d c e → IsComponent e.component
