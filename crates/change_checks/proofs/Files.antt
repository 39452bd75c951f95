-- The entry of a file, which may have one more.
use Rattle.std.proofs.Common.{◌≡◌, ℕ, Bool, List, [], Some, None, Option, ap, ◌∙◌}
use Rattle.std.specs.Prelude.{if◌then◌else◌, Err}
use Rattle.std.specs.Option.{option_map}
use Rattle.names.specs.declared.errors.Errno.{Errno}
use Rattle.names.specs.declared.errors.Errno.TheVariants.{EPERM}
use Rattle.directory_tree.specs.declared.node.NodeKind.{NodeKind}
use Rattle.directory_tree.specs.declared.node.NodeKind.TheVariants.{File}
use Rattle.directory_tree.specs.Tree.{Tree, Entry, find}
use Rattle.directory_tree.specs.Walk.{Spot}
use Rattle.directory_tree.specs.Walk.Spot.{Root, Held}
use Rattle.directory_tree.specs.Spots.{node_at, kind_at, child_of}
use Rattle.directory_tree.specs.Apply.{entry, is_file, link, link_to, link_from}

-- the entry that a spot is; the root has none, and any will do
abbrev pub entry_in : Spot → Entry
entry_in Root = entry 0 [] 0 File
entry_in (Held e) = e

-- a link of a file is refused for the reason why its new entry is
pub link_refused : (t : Tree) (room : Bool) (s : Spot) (c : List ℕ) (into : ℕ) (name : List ℕ) (file : Spot) (e : Errno) → child_of t s c
    ≡ Some file → kind_at file ≡ File
    → link_to t room (entry_in file) into name (find t.entries into name) ≡ Err e → link t room (node_at s) c into name ≡ Err e
link_refused t room s c into name file e there is h =
    elim (find t.entries (node_at s) c) as (λ (o : Option Entry). option_map Held o ≡ Some file → link_from t room into name o ≡ Err e) [
      | None ↦ λ q. absurd (cc q)
      | Some z ↦ λ q.
          let same : Held z ≡ file = ap (λ (o : Option Spot). elim o [ None ↦ file | Some x ↦ x ]) q in
          ap (λ (k : NodeKind). if is_file k then link_to t room z into name (find t.entries into name) else Err EPERM)
          (ap kind_at same ∙ is)
          ∙ ap (λ (x : Spot). link_to t room (entry_in x) into name (find t.entries into name)) same ∙ h
    ] there
