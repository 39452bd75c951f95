-- A tree as a look sees it: the definitions by which its answers are stated.
use Rattle.std.specs.Prelude.{◌⊎◌, ℕ}
use Rattle.directory_tree.specs.Tree.{Tree, WellFormed}
use Rattle.directory_tree.specs.Walk.{Spot}

-- a sound tree, with a naming: the spot that each number stands for, for looks that name entries by numbers
pub record World : Type 0 where
  pub tree : Tree
  pub named : ℕ → Spot
  pub sound : WellFormed tree

-- reading yields more information, and so fewer worlds agree with what was read
abbrev pub Narrows : (World → Type 0) → (World → Type 0) → Type 0
Narrows before after = (w : World) → after w → before w

-- a word wasn't known, or no world agrees with what was read
abbrev pub IsTorn : Type 0 → (World → Type 0) → Type 0
IsTorn lacks sees = lacks ⊎ ((w : World) → ¬ (sees w))
