-- The links that a walk follows, one after the other (path_resolution(7)).
use Rattle.std.specs.Prelude.{ℕ, zero, suc, ◌&&◌, Bool, List, [], ◌∷◌, ◌++◌, Option, Some, None, if◌then◌else◌}
use Rattle.directory_tree.specs.declared.node.Last.{Last}
use Rattle.directory_tree.specs.declared.node.NodeKind.{NodeKind}
use Rattle.directory_tree.specs.declared.node.NodeKind.TheVariants.{Directory, File, Link}
use Rattle.directory_tree.specs.Components.{Step, steps_of}
use Rattle.directory_tree.specs.Components.Step.{Here, Up, Down}
use Rattle.directory_tree.specs.Tree.{Tree, find}
use Rattle.directory_tree.specs.Walk.{above, is_last, stays, start_of}

-- where a walk goes on after a link: a directory, and the components from there
abbrev pub Onward : Type 0
Onward = ℕ × List Step

abbrev pub link_at : Bool → Option Onward → (List ℕ → Onward) → NodeKind → Option Onward
link_at here go follow Directory = go
link_at here go follow File = None
link_at here go follow (Link text) = if here then None else Some (follow text)

-- the first link that a walk from a directory along components follows, if it follows one: where it goes on after it
abbrev pub first_link : Tree → Last → ℕ → List Step → Option Onward
first_link t last d [] = None
first_link t last d (Here ∷ xs) = first_link t last d xs
first_link t last d (Up ∷ xs) = first_link t last (above t d) xs
first_link t last d (Down c ∷ xs) = elim (find t.entries d c) [
  | None ↦ None
  | Some e ↦ link_at (is_last xs && stays last) (first_link t last e.node xs) (λ text. (start_of text d, steps_of text ++ xs)) e.kind
]

-- how many links a walk without a limit follows, counted up to this number
abbrev pub links_followed : Tree → Last → ℕ → ℕ → List Step → ℕ
links_followed t last zero d xs = zero
links_followed t last (suc n) d xs =
    elim (first_link t last d xs) [ None ↦ zero | Some next ↦ suc (links_followed t last n next.0 next.1) ]
