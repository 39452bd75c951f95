-- The walk along a path, symbolic links followed (path_resolution(7)).
use Rattle.std.specs.Prelude.{ℕ, zero, suc, ◌==◌, ◌&&◌, Bool, true, false, List, [], ◌∷◌, ◌++◌, Option, Some, None, Result, Ok, Err}
use Rattle.std.specs.Prelude.{if◌then◌else◌}
use Rattle.names.specs.declared.errors.Errno.{Errno}
use Rattle.names.specs.declared.errors.Errno.TheVariants.{ENOENT, ENOTDIR, ELOOP}
use Rattle.directory_tree.specs.declared.node.NodeKind.{NodeKind}
use Rattle.directory_tree.specs.declared.node.NodeKind.TheVariants.{Directory, File, Link}
use Rattle.directory_tree.specs.declared.node.Last.{Last}
use Rattle.directory_tree.specs.declared.node.Last.TheVariants.{Follow, Stay}
use Rattle.names.specs.Paths.{begins_with_slash}
use Rattle.directory_tree.specs.Components.{Step, steps_of}
use Rattle.directory_tree.specs.Components.Step.{Here, Up, Down}
use Rattle.directory_tree.specs.Tree.{Tree, Entry, root, find, own_entry}

-- what a path leads to: the root, or an entry
pub data Spot : Type 0 where
  Root : Spot
  Held : Entry → Spot

abbrev pub Walked : Type 0
Walked = Result Spot Errno

-- a directory as a spot
abbrev pub spot_of : Tree → ℕ → Spot
spot_of t d = if d == root then Root else elim (own_entry t.entries d) [ None ↦ Root | Some e ↦ Held e ]

-- `..`: the directory above; the root's is the root
abbrev pub above : Tree → ℕ → ℕ
above t d = if d == root then root else elim (own_entry t.entries d) [ None ↦ d | Some e ↦ e.of ]

abbrev pub is_last : List Step → Bool
is_last [] = true
is_last (x ∷ xs) = false

abbrev pub stays : Last → Bool
stays Stay = true
stays Follow = false

-- a link's text begins at the root, or at the directory that has the link
abbrev pub start_of : List ℕ → ℕ → ℕ
start_of text d = if begins_with_slash text then root else d

-- what the entry of a component gives: a walk goes on in a directory; a file ends it, and nothing may follow; a link is followed,
-- unless it is last and is to stay. `ends`: no component follows.
abbrev pub at_kind : Bool → Last → Walked → Walked → (List ℕ → Walked) → NodeKind → Walked
at_kind ends last found go follow Directory = go
at_kind ends last found go follow File = if ends then found else Err ENOTDIR
at_kind ends last found go follow (Link text) = if ends && stays last then found else follow text

abbrev pub at_entry : Bool → Last → (ℕ → Walked) → (List ℕ → Walked) → Option Entry → Walked
at_entry ends last go follow None = Err ENOENT
at_entry ends last go follow (Some e) = at_kind ends last (Ok (Held e)) (go e.node) follow e.kind

module _ (t : Tree) (last : Last) where
  -- the walk along components from a directory; `follow` goes on from there when a link is met
  abbrev pub onward : (ℕ → List Step → Walked) → ℕ → List Step → Walked
  onward follow d [] = Ok (spot_of t d)
  onward follow d (Here ∷ xs) = onward follow d xs
  onward follow d (Up ∷ xs) = onward follow (above t d) xs
  onward follow d (Down c ∷ xs) = at_entry (is_last xs) last (λ n. onward follow n xs)
      (λ text. follow (start_of text d) (steps_of text ++ xs)) (find t.entries d c)

  -- with this many links left: a link's components are put in front of the rest
  abbrev pub resolve : ℕ → ℕ → List Step → Walked
  resolve zero = onward (λ d xs. Err ELOOP)
  resolve (suc links) = onward (λ d xs. resolve links d xs)

-- the most links of one walk (path_resolution(7))
abbrev pub max_links : ℕ
max_links = 40

-- where a path leads
abbrev pub walk : Tree → Last → List ℕ → Walked
walk t last text = resolve t last max_links root (steps_of text)
