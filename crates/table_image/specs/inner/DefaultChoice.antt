-- What a state leaves to its default.
use Rattle.std.specs.Prelude.{◌≡◌, ◌⊎◌, ℕ, ◌+◌, ◌<◌, ◌≤◌, List, length, slice_index_or}
use Rattle.automaton_rows.specs.Automata.{Automaton}
use Rattle.table_image.specs.declared.choice.Choice.{Choice}

-- a target at depth 0, or a state before this one, at one more than its depth and at most at the greatest
pub record IsChoice (a : Automaton) (depths : List ℕ) (state most : ℕ) (choice : Choice) : Type 0 where
  pub there : choice.default < length a.rows
  pub low : choice.depth ≤ most
  pub lawful : (choice.depth ≡ 0)
      ⊎ ((choice.default < state) × (choice.depth ≡ slice_index_or depths choice.default 0 + 1))
