-- What the store of a plain tree holds, by the numbers of directories and by components.
use Rattle.std.specs.Prelude.{◌≡◌, ℕ, ◌==◌, ◌&&◌, Bool, true, false, List, Option, Some, None, IsSome, if◌then◌else◌, bytes_eq}
use Rattle.std.specs.Option.{option_map}
use Rattle.std.specs.Ordering.{nat_cmp}
use Rattle.std.specs.Cmp.Lexicographic.{slice_cmp}
use Rattle.std.specs.BTreeMap.{get, get_by}
use Rattle.plain_tree.specs.declared.directory.Directory.{Directory}
use Rattle.plain_tree.specs.declared.directory.Node.{Node}
use Rattle.plain_tree.specs.declared.directory.Parent.{Parent}
use Rattle.plain_tree.specs.declared.store.Store.{Store}
use Rattle.directory_tree.specs.Tree.{is_directory}

-- what the entry of a component stands for
abbrev pub node_in : Directory → List ℕ → Option Node
node_in d c = get_by (λ k. slice_cmp nat_cmp c k.items) d.entries

-- the component stands for w from now on (None: there is no entry), and nothing else has changed
pub record SetsIn (old new : Directory) (c : List ℕ) (w : Option Node) : Type 0 where
  pub parent : new.parent ≡ old.parent
  pub nodes : (q : List ℕ) → node_in new q ≡ (if bytes_eq c q then w else node_in old q)

pub record KeepsIn (old new : Directory) : Type 0 where
  pub parent : new.parent ≡ old.parent
  pub nodes : (q : List ℕ) → node_in new q ≡ node_in old q

abbrev pub node_of : Option Directory → List ℕ → Option Node
node_of None c = None
node_of (Some d) c = node_in d c

abbrev pub stored_directory : Store → ℕ → Option Directory
stored_directory s d = get nat_cmp s.directories d

-- what the entry of a component in a directory stands for
abbrev pub stored_node : Store → ℕ → List ℕ → Option Node
stored_node s d c = node_of (stored_directory s d) c

-- where a directory is, if there is such a directory; the root is nowhere
abbrev pub stored_parent : Store → ℕ → Option (Option Parent)
stored_parent s d = option_map (λ x. x.parent) (stored_directory s d)

abbrev pub known_parent : Option (Option Parent) → Option Parent
known_parent None = None
known_parent (Some parent) = parent

-- one entry is changed, or made (`w`: what it stands for), or taken away
pub record Sets (old new : Store) (of : ℕ) (c : List ℕ) (w : Option Node) : Type 0 where
  pub parents : (d : ℕ) → stored_parent new d ≡ stored_parent old d
  pub nodes : (d : ℕ) (q : List ℕ) → stored_node new d q ≡ (if (of == d) && bytes_eq c q then w else stored_node old d q)

-- one directory is made, moved or taken away
pub record SetsParent (old new : Store) (number : ℕ) (w : Option (Option Parent)) : Type 0 where
  pub parents : (d : ℕ) → stored_parent new d ≡ (if number == d then w else stored_parent old d)
  pub nodes : (d : ℕ) (q : List ℕ) → stored_node new d q ≡ stored_node old d q

pub record Keeps (old new : Store) : Type 0 where
  pub parents : (d : ℕ) → stored_parent new d ≡ stored_parent old d
  pub nodes : (d : ℕ) (q : List ℕ) → stored_node new d q ≡ stored_node old d q

-- the node is a directory of this number
abbrev pub is_numbered : Option Node → ℕ → Bool
is_numbered None d = false
is_numbered (Some n) d = (n.number == d) && is_directory n.kind

abbrev pub new_parent : ℕ → List ℕ → Parent
new_parent of c = record { of = of; component = c }

-- an entry is made, that of a directory with a directory
pub record Enters (old new : Store) (of : ℕ) (c : List ℕ) (n : Node) : Type 0 where
  pub parents : (d : ℕ) → stored_parent new d ≡ (if is_numbered (Some n) d then Some (Some (new_parent of c)) else stored_parent old d)
  pub nodes : (d : ℕ) (q : List ℕ) → stored_node new d q ≡ (if (of == d) && bytes_eq c q then Some n else stored_node old d q)

-- where a directory will be, if the node is one
abbrev pub moved_parent : Option Node → ℕ → List ℕ → Option Parent
moved_parent None into name = None
moved_parent (Some n) into name = if is_directory n.kind then Some (new_parent into name) else None

-- a directory is somewhere
abbrev pub IsOpened : Store → Option Node → Type 0
IsOpened s None = Unit {0}
IsOpened s (Some n) = is_directory n.kind ≡ true → IsSome (stored_parent s n.number)

-- a directory has no entry
abbrev pub IsLoose : Store → Option Node → Type 0
IsLoose s None = Unit {0}
IsLoose s (Some n) = is_directory n.kind ≡ true → (q : List ℕ) → stored_node s n.number q ≡ None

-- not one directory
abbrev pub Differ : Option Node → Option Node → Type 0
Differ m n = (d : ℕ) → is_numbered m d ≡ true → is_numbered n d ≡ false

pub record MakesWay (old new : Store) (into : ℕ) (name : List ℕ) : Type 0 where
  pub here : IsSome (stored_node new into name)
  pub nodes : (d : ℕ) (q : List ℕ) → ((into == d) && bytes_eq name q) ≡ false → stored_node new d q ≡ stored_node old d q
  pub parents : (d : ℕ) → stored_parent new d ≡ (if is_numbered (stored_node old into name) d then None else stored_parent old d)

-- the entry of one place goes to another
abbrev pub shifted : Store → ℕ → List ℕ → ℕ → List ℕ → ℕ → List ℕ → Option Node
shifted s of c into name d q = if (into == d) && bytes_eq name q then stored_node s of c else
    (if (of == d) && bytes_eq c q then None else stored_node s d q)

pub record MovesOver (old new : Store) (of : ℕ) (c : List ℕ) (into : ℕ) (name : List ℕ) : Type 0 where
  pub nodes : (d : ℕ) (q : List ℕ) → stored_node new d q ≡ shifted old of c into name d q
  pub parents : (d : ℕ) → stored_parent new d ≡ (if is_numbered (stored_node old of c) d then Some (Some (new_parent into name))
      else stored_parent old d)

-- and what was there is removed, a directory with its entry
pub record Shifts (old new : Store) (of : ℕ) (c : List ℕ) (into : ℕ) (name : List ℕ) : Type 0 where
  pub nodes : (d : ℕ) (q : List ℕ) → stored_node new d q ≡ shifted old of c into name d q
  pub parents : (d : ℕ) → stored_parent new d ≡ (if is_numbered (stored_node old of c) d then Some (Some (new_parent into name)) else
      (if is_numbered (stored_node old into name) d then None else stored_parent old d))

-- an entry goes, that of a directory with its directory
pub record Leaves (old new : Store) (of : ℕ) (c : List ℕ) : Type 0 where
  pub nodes : (d : ℕ) (q : List ℕ) → stored_node new d q ≡ (if (of == d) && bytes_eq c q then None else stored_node old d q)
  pub parents : (d : ℕ) → stored_parent new d ≡ (if is_numbered (stored_node old of c) d then None else stored_parent old d)
