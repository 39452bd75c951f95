-- Targets that bytes of one class share, while the row of a set is written.
use Rattle.std.specs.Prelude.{◌≡◌, ℕ, ◌<◌, Bool, false, List, length, Option, Some, None, slice_index_or}
use Rattle.glob_automaton.specs.declared.chart.Chart.{Chart}
use Rattle.glob_automaton.specs.inner.Alike.{least_of}
use Rattle.glob_automaton.specs.inner.States.{IsTargetOf}

-- Each target that is kept for a least byte is that of all bytes alike to it that no place takes alone.
pub record AreShared (chart : Chart) (least : List ℕ) (named : List Bool) (sets : List (List ℕ)) (places : List ℕ)
    (others : List (Option ℕ)) : Type 0 where
  pub wide : length others ≡ 256
  pub shared : (o b target : ℕ) → slice_index_or others o None ≡ Some target → b < 256 → least_of least b ≡ o →
      slice_index_or named b false ≡ false →
      IsTargetOf chart sets places b target
