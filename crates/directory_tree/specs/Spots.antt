-- What is reported about the root, or an entry, that a path leads to (path_resolution(7), inode(7)).
use Rattle.std.specs.Prelude.{ℕ, List, [], Option, Some, None}
use Rattle.std.specs.Option.{option_map}
use Rattle.directory_tree.specs.declared.node.Kind.{Kind}
use Rattle.directory_tree.specs.declared.node.Kind.TheVariants as kind
use Rattle.directory_tree.specs.declared.node.NodeKind.{NodeKind}
use Rattle.directory_tree.specs.declared.node.NodeKind.TheVariants.{Directory, File, Link}
use Rattle.directory_tree.specs.Tree.{Tree, Has, root, find}
use Rattle.directory_tree.specs.Walk.{Spot, spot_of}
use Rattle.directory_tree.specs.Walk.Spot.{Root, Held}

-- the spot is in the tree
abbrev pub Stands : Tree → Spot → Type 0
Stands t Root = Unit {0}
Stands t (Held e) = Has t e.of e.component e

-- what a node is, without the text of a link
abbrev pub shape_of : NodeKind → Kind
shape_of Directory = kind.Directory
shape_of File = kind.File
shape_of (Link text) = kind.Link

abbrev pub node_at : Spot → ℕ
node_at Root = root
node_at (Held e) = e.node

abbrev pub kind_at : Spot → NodeKind
kind_at Root = Directory
kind_at (Held e) = e.kind

-- the root has no component of its own
abbrev pub component_at : Spot → List ℕ
component_at Root = []
component_at (Held e) = e.component

-- the directory that has the entry; the root has none
abbrev pub directory_of : Tree → Spot → Option Spot
directory_of t Root = None
directory_of t (Held e) = Some (spot_of t e.of)

-- the entry of a component in a directory
abbrev pub child_of : Tree → Spot → List ℕ → Option Spot
child_of t directory component = option_map Held (find t.entries (node_at directory) component)
