-- A small tree, for tests: a directory with a file, a link to the file and a link to itself, and a link to the directory.
use Rattle.std.proofs.Common.{◌≡◌, [], ◌∷◌, sym, subst}
use Rattle.std.specs.Prelude.{codes, Some}
use Rattle.directory_tree.specs.declared.node.NodeKind.TheVariants.{Directory, File, Link}
use Rattle.directory_tree.specs.Tree.{Tree, Entry, find}
use Rattle.path_lookup.specs.World.{World}

abbrev pub a : Entry
a = record { of = 1; component = codes "a"; node = 2; kind = Directory }

abbrev pub f : Entry
f = record { of = 2; component = codes "f"; node = 3; kind = File }

abbrev pub l : Entry
l = record { of = 2; component = codes "l"; node = 4; kind = Link (codes "/a/f") }

abbrev pub r : Entry
r = record { of = 2; component = codes "r"; node = 5; kind = Link (codes "r") }

abbrev pub d : Entry
d = record { of = 1; component = codes "d"; node = 6; kind = Link (codes "a/") }

abbrev pub small_tree : Tree
small_tree = record { entries = a ∷ f ∷ l ∷ r ∷ d ∷ []; next = 7 }

-- the worlds that have it
abbrev pub HasSmall : World → Type 0
HasSmall w = w.tree ≡ small_tree

pub stands_small : (t : Tree) (e : Entry) → t ≡ small_tree → find small_tree.entries e.of e.component ≡ Some e →
    find t.entries e.of e.component ≡ Some e
stands_small t e is there = subst (λ (u : Tree). find u.entries e.of e.component ≡ Some e) (sym is) there
