-- An entry that is known is in every tree that is seen.
use Rattle.std.specs.Prelude.{◌≢◌, ℕ, zero, suc, ◌+◌, ◌<◌, List}
use Rattle.std.proofs.Common.{subst, sym, arith}
use Rattle.directory_tree.specs.Spots.{Stands}
use Rattle.path_lookup.specs.World.{World}
use Rattle.tree_row.specs.Slots.{slot_at}
use Rattle.tree_row.specs.Worlds.{spot_at, EncodesWorld, SeesBy, Knows}

spot_stands : (capacity : ℕ) (row : List ℕ) (w : World) → EncodesWorld capacity row w → (s : ℕ) → s < capacity + 1 →
    (slot_at row s).kind ≢ 0 → Stands w.tree (spot_at (slot_at row) s)
spot_stands capacity row w enc zero within filled = tt
spot_stands capacity row w enc (suc s) within filled = enc.tree.slots.there (suc s) record {
  past_root = omega arith;
  within =
      within;
  used = filled;
}

pub knows_stands : (capacity : ℕ) (may : List ℕ → Type 0) (w : World) (s : ℕ) → SeesBy capacity may w → Knows capacity may s →
    Stands w.tree (w.named s)
knows_stands capacity may w s (row, m, enc) known = subst (Stands w.tree) (sym (enc.named s))
    (spot_stands capacity row w enc s known.within (known.filled row w m enc))
