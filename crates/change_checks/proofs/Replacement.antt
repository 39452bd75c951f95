-- A move onto another entry.
use Rattle.std.proofs.Common.{◌≡◌, ◌≢◌, ℕ, ◌==◌, ◌&&◌, false, List, length, Some, None, Option, sym, refl, ap, ◌∙◌, ne_eqb}
use Rattle.std.specs.Prelude.{if◌then◌else◌, Ok, Err}
use Rattle.std.specs.Option.{option_map}
use Rattle.names.specs.declared.errors.Errno.{Errno}
use Rattle.names.specs.declared.errors.Errno.TheVariants.{EINVAL}
use Rattle.directory_tree.specs.Tree.{Tree, Entry, find, is_directory, is_below}
use Rattle.directory_tree.specs.Walk.{Spot}
use Rattle.directory_tree.specs.Walk.Spot.{Held}
use Rattle.directory_tree.specs.Spots.{node_at, kind_at, child_of}
use Rattle.directory_tree.specs.Apply.{Changed, moved, goes_below, onto_kind, rename, rename_from, rename_onto}
use Rattle.change_checks.proofs.Files.{entry_in}

child_found : (t : Tree) (s p : Spot) (c : List ℕ) → child_of t s c ≡ Some p → (z : Entry) × (find t.entries (node_at s) c ≡ Some z)
    × (Held z ≡ p)
child_found t s p c h = elim (find t.entries (node_at s) c) as (λ (o : Option Entry). option_map Held o ≡ Some p →
    (z : Entry) × (o ≡ Some z) × (Held z ≡ p)) [
      | None ↦ λ q. absurd (cc q)
      | Some z ↦ λ q. (z, refl, ap (λ (o : Option Spot). elim o [ None ↦ p | Some x ↦ x ]) q)
    ] h

-- what is in a directory is an entry
pub child_held : (t : Tree) (s p : Spot) (c : List ℕ) → child_of t s c ≡ Some p → p ≡ Held (entry_in p)
child_held t s p c h = let (z, found, same) = child_found t s p c h in sym same ∙ ap (λ (x : Spot). Held (entry_in x)) same

-- a rename is refused for the reason why the entry at the new place can't be replaced
module _ (t : Tree) (s p entry other : Spot) (c name : List ℕ) where
  abbrev go : Changed
  go = Ok (moved t (node_at s) c (node_at p) name)

  pub rename_refused : (e : Errno) → child_of t s c ≡ Some entry → child_of t p name ≡ Some other → node_at other ≢ node_at entry
      → (is_directory (kind_at entry) && is_below t.entries (length t.entries) (node_at entry) (node_at p)) ≡ false
      → onto_kind t.entries (entry_in entry) (entry_in other) go ≡ Err e → rename t (node_at s) c (node_at p) name ≡ Err e
  rename_refused e old new differ above h =
      let (z, z_found, z_is) = child_found t s entry c old in
      let (y, y_found, y_is) = child_found t p other name new in
      let apart : (y.node == z.node) ≡ false = ne_eqb y.node z.node (λ q. differ (ap node_at (sym y_is) ∙ q ∙ ap node_at z_is)) in
      let below : goes_below t.entries z (node_at p) ≡ false =
      ap (λ (x : Spot). is_directory (kind_at x) && is_below t.entries (length t.entries) (node_at x) (node_at p)) z_is ∙ above in
      ap (rename_from t (node_at s) c (node_at p) name) z_found
      ∙ ap (rename_onto t z (node_at p) go) y_found
      ∙ (λ i. if apart i then Ok t else (if below i then Err EINVAL else onto_kind t.entries z y go))
      ∙ (λ i. onto_kind t.entries (entry_in (z_is i)) (entry_in (y_is i)) go)
      ∙ h
