-- The climb from a directory to the root.
use Rattle.std.proofs.Common.{◌≡◌, ℕ, zero, suc, ◌+◌, ◌-◌, ◌≤◌, ◌==◌, ◌≢◌, Bool, true, false, List, length, Some, None, Option, sym, refl}
use Rattle.std.proofs.Common.{ap, ◌∙◌, subst, arith, eq-eqb, ne_eqb}
use Rattle.std.specs.Prelude.{if◌then◌else◌}
use Rattle.directory_tree.specs.declared.node.NodeKind.{NodeKind}
use Rattle.directory_tree.specs.declared.node.NodeKind.TheVariants.{Directory, File, Link}
use Rattle.directory_tree.specs.declared.node.Kind.TheVariants as kind
use Rattle.directory_tree.specs.Tree.{Tree, Entry, WellFormed, root, own_entry, is_directory, is_below}
use Rattle.directory_tree.specs.Walk.{Spot, spot_of}
use Rattle.directory_tree.specs.Walk.Spot.{Root, Held}
use Rattle.directory_tree.specs.Spots.{Stands, node_at, kind_at, shape_of, directory_of}
use Rattle.std.proofs.lemmas.Option.{none-some, same_Some}
use Rattle.directory_tree.proofs.Depth.{Deep, deep, shallow}
use Rattle.directory_tree.proofs.Presence.{spot_node}
use Rattle.directory_tree.proofs.Placement.{root_nowhere}
use Rattle.directory_tree.proofs.Presence.{placed_at}
use Rattle.directory_tree.proofs.Walks.{own_entry_found}

-- i steps up lead from one directory to another, and whether `from` lies below `top` is decided from there on
pub record ClimbsTo (t : Tree) (top : ℕ) (from at : Spot) (i : ℕ) : Type 0 where
  pub directory : shape_of (kind_at at) ≡ kind.Directory
  pub same : is_below t.entries (length t.entries - i) top (node_at at) ≡ is_below t.entries (length t.entries) top (node_at from)
  pub deep_at : (k : ℕ) × (k + i ≤ length t.entries) × Deep t.entries k (node_at at)

directory_shape : (k : NodeKind) → shape_of k ≡ kind.Directory → is_directory k ≡ true
directory_shape Directory h = refl
directory_shape File h = absurd (cc h)
directory_shape (Link text) h = absurd (cc h)

shape_directory : (k : NodeKind) → is_directory k ≡ true → shape_of k ≡ kind.Directory
shape_directory Directory h = refl
shape_directory File h = absurd (cc h)
shape_directory (Link text) h = absurd (cc h)

held_deep : (t : Tree) (e : Entry) → WellFormed t → Stands t (Held e) → is_directory e.kind ≡ true → (k : ℕ) × Deep t.entries k e.node
held_deep t e well stands directory =
    let (n, lead) = well.rooted e.of e.component e stands in
    let (m, low, up) = deep t.entries n e.of lead in (
      suc m,
      (
        e,
        placed_at t well e.of e.component e stands directory,
        (λ is. let a = (well.low e.of e.component e stands).0 in
            absurd (omega arith)),
        up,
      ),
    )

pub climb_start : (t : Tree) (top : ℕ) (s : Spot) → WellFormed t → Stands t s → shape_of (kind_at s) ≡ kind.Directory →
    ClimbsTo t top s s 0
climb_start t top Root well stands h =
    record {
      directory = h;
      same = ap (λ (k : ℕ). is_below t.entries k top root) (let e : length t.entries - 0 ≡ length t.entries =
          omega arith in e);
      deep_at = (0, omega arith, refl);
    }
climb_start t top (Held e) well stands h =
    let (k, d) = held_deep t e well stands (directory_shape e.kind h) in
    let low = shallow t.entries k e.node d in
    record {
      directory = h;
      same = ap (λ (k : ℕ). is_below t.entries k top e.node) (let e : length t.entries - 0 ≡ length t.entries =
          omega arith in e);
      deep_at = (k, omega arith, d);
    }

is_here : (es : List Entry) (n top : ℕ) → is_below es n top top ≡ true
is_here es zero top = eq-eqb top top refl
is_here es (suc n) top =
    ap (λ (b : Bool). if b then true else elim (own_entry es top) as (λ _. Bool) [ None ↦ false | Some e ↦ is_below es n top e.of ])
    (eq-eqb top top refl)

pub climb_here : (t : Tree) (top : ℕ) (from at : Spot) (i : ℕ) → ClimbsTo t top from at i → node_at at ≡ top →
    is_below t.entries (length t.entries) top (node_at from) ≡ true
climb_here t top from at i h is = sym h.same ∙ ap (is_below t.entries (length t.entries - i) top) is ∙ is_here t.entries
    (length t.entries - i) top

root_apart : (t : Tree) (n top : ℕ) → WellFormed t → root ≢ top → is_below t.entries n top root ≡ false
root_apart t zero top well other = ne_eqb root top other
root_apart t (suc n) top well other =
    ap (λ (b : Bool). if b then true else elim (own_entry t.entries root) as (λ _. Bool) [
      | None ↦ false
      | Some e ↦ is_below t.entries n top
          e.of
    ]) (ne_eqb root top other)
    ∙ ap (λ (o : Option Entry). elim o as (λ _. Bool) [ None ↦ false | Some e ↦ is_below t.entries n top e.of ]) (root_nowhere t well)

pub climb_root : (t : Tree) (top : ℕ) (from at : Spot) (i : ℕ) → WellFormed t → ClimbsTo t top from at i → directory_of t at ≡ None →
    node_at at ≢ top → is_below t.entries (length t.entries) top (node_at from) ≡ false
climb_root t top from Root i well h none other = sym h.same ∙ root_apart t (length t.entries - i) top well other
climb_root t top from (Held e) i well h none other = absurd (none-some _ (sym none))

up_once : (es : List Entry) (n top at : ℕ) (e : Entry) → at ≢ top → own_entry es at ≡ Some e → is_below es (suc n) top at
    ≡ is_below es n top e.of
up_once es n top at e other is =
    ap (λ (b : Bool). if b then true else elim (own_entry es at) as (λ _. Bool) [ None ↦ false | Some e ↦ is_below es n top e.of ])
    (ne_eqb at top other)
    ∙ ap (λ (o : Option Entry). elim o as (λ _. Bool) [ None ↦ false | Some e ↦ is_below es n top e.of ]) is

spot_shape : (t : Tree) (d : ℕ) → WellFormed t → shape_of (kind_at (spot_of t d)) ≡ kind.Directory
spot_shape t d well =
    elim (d == root) as (λ (b : Bool). shape_of
    (kind_at (if b then Root else elim (own_entry t.entries d) as (λ _. Spot) [ None ↦ Root | Some e ↦ Held e ])) ≡ kind.Directory) [
      | true ↦ refl
      | false ↦ elim (own_entry t.entries d) as (λ (o : Option Entry). own_entry t.entries d ≡ o →
          shape_of (kind_at (elim o as (λ _. Spot) [ None ↦ Root | Some e ↦ Held e ])) ≡ kind.Directory) [
            | None ↦ λ is. refl
            | Some e ↦ λ is. shape_directory e.kind (own_entry_found t.entries d e well.distinct is).directory
          ] refl
    ]

climb_held : (t : Tree) (top : ℕ) (from : Spot) (e : Entry) (i k : ℕ) → WellFormed t → Stands t (Held e) → ClimbsTo t top from (Held e) i →
    k + i ≤ length t.entries → Deep t.entries k e.node → e.node ≢ top → ClimbsTo t top from (spot_of t e.of) (i + 1)
climb_held t top from e i zero well stands h low d other = let a = (well.low e.of e.component e stands).0 in absurd (omega arith)
climb_held t top from e i (suc k) well stands h low (z, is, past, up) other =
    let placed = placed_at t well e.of e.component e stands (directory_shape e.kind h.directory) in
    let same_entry : z ≡ e = same_Some z e (sym is ∙ placed) in
    let (n, lead) = well.rooted e.of e.component e stands in
    let node : node_at (spot_of t e.of) ≡ e.of = spot_node t well n e.of lead in
    let less : length t.entries - i ≡ suc (length t.entries - (i + 1)) = omega arith in
    record {
      directory = spot_shape t e.of well;
      same = ap (is_below t.entries (length t.entries - (i + 1)) top) node
          ∙ sym (up_once t.entries (length t.entries - (i + 1)) top e.node e other placed)
          ∙ ap (λ (m : ℕ). is_below t.entries m top e.node) (sym less) ∙ h.same;
      deep_at = (k, omega arith, subst (Deep t.entries k) (ap (λ (y : Entry). y.of) same_entry ∙ sym node) up);
    }

pub climb_up : (t : Tree) (top : ℕ) (from at up : Spot) (i : ℕ) → WellFormed t → Stands t at → ClimbsTo t top from at i → directory_of t at
    ≡ Some up → node_at at ≢ top → ClimbsTo t top from up (i + 1)
climb_up t top from Root up i well stands h is other = absurd (none-some up is)
climb_up t top from (Held e) up i well stands h is other =
    let (k, low, d) = h.deep_at in
    subst (λ (s : Spot). ClimbsTo t top from s (i + 1)) (same_Some (spot_of t e.of) up is)
    (climb_held t top from e i k well stands h low d other)

pub climb_last : (t : Tree) (top most i : ℕ) (from at : Spot) → length t.entries ≤ most → most ≤ i → ClimbsTo t top from at i →
    is_below t.entries (length t.entries) top (node_at from) ≡ (node_at at == top)
climb_last t top most i from at few over h =
    let none : length t.entries - i ≡ 0 = omega arith in
    sym h.same ∙ ap (λ (n : ℕ). is_below t.entries n top (node_at at)) none
