-- What the tests of a change say about a plain tree.
use Rattle.std.proofs.Common.{◌≡◌, ℕ, ◌<◌, ◌==◌, Bool, true, false, length, Some, None, Option, sym, refl, ap, ◌∙◌, subst}
use Rattle.std.specs.Prelude.{if◌then◌else◌, Ok, Err, IsSome, is_some, nat_lt}
use mathlib.Core.Logic.{inl, inr}
use Rattle.std.specs.Option.{option_map}
use Rattle.std.proofs.lemmas.Bool.{lt-ltb}
use Rattle.names.specs.declared.errors.Errno.{Errno}
use Rattle.names.specs.declared.errors.Errno.TheVariants.{EOVERFLOW}
use Rattle.directory_tree.specs.declared.node.Kind.TheVariants as kind
use Rattle.directory_tree.specs.declared.node.NodeKind.{NodeKind}
use Rattle.directory_tree.specs.declared.node.NodeKind.TheVariants.{Directory, File, Link}
use Rattle.directory_tree.specs.declared.change.Change.{Change}
use Rattle.directory_tree.specs.Tree.{Tree, Entry, WellFormed, root, own_entry, is_directory}
use Rattle.directory_tree.specs.Walk.{Spot}
use Rattle.directory_tree.specs.Walk.Spot.{Root, Held}
use Rattle.directory_tree.specs.Spots.{Stands, shape_of, node_at, kind_at}
use Rattle.directory_tree.specs.Apply.{Changed, apply, has_room, most_changes}
use Rattle.directory_tree.specs.Plain.{Plain, tree_of, outcome}
use Rattle.path_lookup.specs.declared.fault.WalkFault.{WalkFault}
use Rattle.path_lookup.specs.declared.fault.WalkFault.TheVariants.{Refused, Torn}
use Rattle.path_lookup.specs.World.{World}
use Rattle.path_lookup.specs.WalkFaults.{IsFault}
use Rattle.change_checks.specs.declared.act.Act.{Act}
use Rattle.change_checks.specs.Act.{acted}
use Rattle.plain_tree.specs.declared.entry.PlainEntry.{PlainEntry}
use Rattle.plain_tree.specs.PlainEntry.{means_in}
use Rattle.plain_tree.specs.PlainLaws.{SeesPlain, entry_stands}
use Rattle.plain_tree.specs.inner.Mirror.{some_parent, stands_at}
use Rattle.directory_tree.proofs.Presence.{placed_at}
use Rattle.directory_tree.proofs.Histories.{plain_well}

-- the one world that a plain tree sees
abbrev pub world_of : Plain → World
world_of p = record { tree = tree_of p; named = λ _. Root; sound = plain_well p }

-- a plain tree is never torn
pub never_torn : (p : Plain) (answer : World → Changed) (fault : WalkFault) → fault ≡ Torn → IsFault ⊥ (SeesPlain p) answer fault → ⊥
never_torn p answer fault is h = elim (subst (IsFault ⊥ (SeesPlain p) answer) is h) [
  | inl none ↦ none
  | inr none ↦ none (world_of p) refl
]

-- a number is the answer for its tree
pub told : (p : Plain) (answer : World → Changed) (fault : WalkFault) (errno : Errno) → fault ≡ Refused errno →
    IsFault ⊥ (SeesPlain p) answer fault → answer (world_of p) ≡ Err errno
told p answer fault errno is h = (subst (IsFault ⊥ (SeesPlain p) answer) is h) (world_of p) refl

-- a change that is counted does what it does to the tree, and none that is not
outcome_counted : (p : Plain) (change : Change) → length p.history < most_changes → outcome p change ≡ apply (tree_of p)
    (has_room p.capacity (tree_of p)) change
outcome_counted p change few =
    let counted : nat_lt (length p.history) most_changes ≡ true = lt-ltb (length p.history) most_changes few in
    ap (λ (b : Bool). if b then apply (tree_of p) (has_room p.capacity (tree_of p)) change else Err EOVERFLOW) counted

pub counted_ok : (p q : Plain) (change : Change) (act : Act PlainEntry) → p ≡ q → length q.history < most_changes
    → apply (tree_of p) (has_room p.capacity (tree_of p)) change ≡ Ok (acted (means_in (tree_of p)) (tree_of p) act) → outcome q change
    ≡ Ok (acted (means_in (tree_of q)) (tree_of q) act)
counted_ok p q change act same few h =
    outcome_counted q change few ∙ subst (λ (x : Plain). apply (tree_of x) (has_room x.capacity (tree_of x)) change
    ≡ Ok (acted (means_in (tree_of x)) (tree_of x) act)) same h

pub counted_err : (p q : Plain) (change : Change) (errno : Errno) → p ≡ q → length q.history < most_changes
    → apply (tree_of p) (has_room p.capacity (tree_of p)) change ≡ Err errno → outcome q change ≡ Err errno
counted_err p q change errno same few h = outcome_counted q change few
    ∙ subst (λ (x : Plain). apply (tree_of x) (has_room x.capacity (tree_of x)) change ≡ Err errno) same h

shape_directory : (k : NodeKind) → shape_of k ≡ kind.Directory → is_directory k ≡ true
shape_directory Directory h = refl
shape_directory File h = absurd (cc h)
shape_directory (Link text) h = absurd (cc h)

-- where a directory of the tree is
stands_some : (t : Tree) (s : Spot) → WellFormed t → Stands t s → shape_of (kind_at s) ≡ kind.Directory → IsSome (stands_at t (node_at s))
stands_some t Root well stands h = refl
stands_some t (Held e) well stands h =
    elim (e.node == root) as (λ (b : Bool). is_some (if b then Some None
    else option_map some_parent (own_entry t.entries e.node)) ≡ true) [
      | true ↦ refl
      | false ↦ ap (λ (o : Option Entry). is_some (option_map some_parent o))
          (placed_at t well e.of e.component e stands (shape_directory e.kind h))
    ]

pub directory_stands : (p : Plain) (e : PlainEntry) (of : ℕ) → of ≡ node_at (means_in (tree_of p) e) →
    shape_of (kind_at (means_in (tree_of p) e)) ≡ kind.Directory → IsSome (stands_at (tree_of p) of)
directory_stands p e of is h =
    let t = tree_of p in
    subst (λ (n : ℕ). IsSome (stands_at t n)) (sym is) (stands_some t (means_in t e) (plain_well p) (entry_stands t e) h)
