-- What one component of a walk leads to.
use Rattle.std.proofs.Common.{◌≡◌, ℕ, zero, suc, ◌==◌, ◌&&◌, Bool, true, false, List, ◌∷◌, ◌++◌, Some, None, Option, sym, refl, ap, ◌∙◌}
use Rattle.std.proofs.Common.{subst, arith, ne_eqb}
use Rattle.std.specs.Prelude.{if◌then◌else◌, Ok, Err, bytes_eq}
use Rattle.std.specs.Option.{option_map, unwrap_or}
use Rattle.names.specs.declared.errors.Errno.TheVariants.{ENOTDIR}
use Rattle.directory_tree.specs.declared.node.Kind.TheVariants as kind
use Rattle.directory_tree.specs.declared.node.NodeKind.{NodeKind}
use Rattle.directory_tree.specs.declared.node.NodeKind.TheVariants.{Directory, File, Link}
use Rattle.directory_tree.specs.declared.node.Last.{Last}
use Rattle.directory_tree.specs.Components.{Step, step_of, steps_of, dot, dot_dot}
use Rattle.directory_tree.specs.Components.Step.{Here, Up, Down}
use Rattle.directory_tree.specs.Tree.{Tree, Entry, WellFormed, root, find, own_entry, is_directory}
use Rattle.directory_tree.specs.Walk.{Spot, Walked, spot_of, above, stays, at_entry, at_kind, start_of, is_last, resolve}
use Rattle.directory_tree.specs.Walk.Spot.{Root, Held}
use Rattle.directory_tree.specs.Spots.{Stands, shape_of, node_at, kind_at, directory_of, child_of}
use Rattle.path_lookup.specs.inner.Steps.{IsDirectory, after_link}
use Rattle.directory_tree.proofs.Presence.{placed_at, spot_node}

-- the step that a component is
step_up : (c : List ℕ) → bytes_eq c dot ≡ false → bytes_eq c dot_dot ≡ true → step_of c ≡ Up
step_up c a b = ap (λ (k : Bool). if k then Here else if bytes_eq c dot_dot then Up else Down c) a
    ∙ ap (λ (k : Bool). if k then Up else Down c) b

step_down : (c : List ℕ) → bytes_eq c dot ≡ false → bytes_eq c dot_dot ≡ false → step_of c ≡ Down c
step_down c a b = ap (λ (k : Bool). if k then Here else if bytes_eq c dot_dot then Up else Down c) a
    ∙ ap (λ (k : Bool). if k then Up else Down c) b

up_one : (t : Tree) (last : Last) (links d : ℕ) (xs : List Step) → resolve t last links d (Up ∷ xs) ≡ resolve t last links (above t d) xs
up_one t last zero d xs = refl
up_one t last (suc links) d xs = refl

down_one : (t : Tree) (last : Last) (links d : ℕ) (c : List ℕ) (xs : List Step) → resolve t last links d (Down c ∷ xs)
    ≡ at_entry (is_last xs) last (λ n. resolve t last links n xs) (λ text. after_link t last links (start_of text d) (steps_of text ++ xs))
    (find t.entries d c)
down_one t last zero d c xs = refl
down_one t last (suc links) d c xs = refl

held_inj : (x y : Entry) → Held x ≡ Held y → x ≡ y
held_inj x y h = ap (λ (s : Spot). elim s [ Root ↦ x | Held z ↦ z ]) h

-- above a directory that is in the tree
pub up_from : (t : Tree) → WellFormed t → (s : Spot) → Stands t s → IsDirectory t s →
    (above t (node_at s) ≡ node_at (unwrap_or (directory_of t s) s)) × IsDirectory t (unwrap_or (directory_of t s) s)
up_from t well Root stands is = (refl, refl)
up_from t well (Held e) stands is = (high ∙ sym own, ap (spot_of t) own)
  where
    other : (e.node == root) ≡ false
    other = ne_eqb e.node root (λ p. let l = (well.low e.of e.component e stands).0 in absurd (omega arith))

    high : above t e.node ≡ e.of
    high =
        ap (λ (b : Bool). if b then root else elim (own_entry t.entries e.node) as (λ _. ℕ) [ None ↦ e.node | Some z ↦ z.of ]) other
        ∙ elim (own_entry t.entries e.node) as (λ (o : Option Entry). (elim o as (λ _. Spot) [ None ↦ Root | Some z ↦ Held z ]) ≡ Held e →
        (elim o as (λ _. ℕ) [ None ↦ e.node | Some z ↦ z.of ]) ≡ e.of) [
          | None ↦ λ q. absurd (cc q)
          | Some z ↦ λ q. ap (λ (x : Entry). x.of) (held_inj z e q)
        ] (sym (ap (λ (b : Bool). if b then Root else elim (own_entry t.entries e.node) as (λ _. Spot) [ None ↦ Root | Some z ↦ Held z ])
        other) ∙ is)

    own : node_at (spot_of t e.of) ≡ e.of
    own = let (n, l) = well.rooted e.of e.component e stands in spot_node t well n e.of l

pub arrive_up : (t : Tree) (last : Last) → WellFormed t → (s p : Spot) → Stands t s → IsDirectory t s →
    p ≡ unwrap_or (directory_of t s) s → (c : List ℕ) → bytes_eq c dot ≡ false → bytes_eq c dot_dot ≡ true
    → (links : ℕ) (xs : List Step) → (resolve t last links (node_at s) (step_of c ∷ xs) ≡ resolve t last links (node_at p) xs)
    × IsDirectory t p
arrive_up t last well s p stands is same c a b links xs =
    let u = up_from t well s stands is in (
      ap (λ (x : Step). resolve t last links (node_at s) (x ∷ xs)) (step_up c a b)
          ∙ up_one t last links (node_at s) xs
          ∙ ap (λ (n : ℕ). resolve t last links n xs) (u.0 ∙ ap node_at (sym same)),
      subst (IsDirectory t) (sym same) u.1,
    )

pub unwrap_map : {E : Type 0} (means : E → Spot) (o : Option E) (e : E) → means (unwrap_or o e) ≡ unwrap_or (option_map means o) (means e)
unwrap_map means None e = refl
unwrap_map means (Some x) e = refl

child_found : (t : Tree) (s p : Spot) (c : List ℕ) → child_of t s c ≡ Some p → (z : Entry) × (find t.entries (node_at s) c ≡ Some z)
    × (Held z ≡ p)
child_found t s p c h = elim (find t.entries (node_at s) c) as (λ (o : Option Entry). option_map Held o ≡ Some p →
    (z : Entry) × (o ≡ Some z) × (Held z ≡ p)) [
      | None ↦ λ q. absurd (cc q)
      | Some z ↦ λ q. (z, refl, ap (λ (o : Option Spot). elim o [ None ↦ p | Some x ↦ x ]) q)
    ] h

-- a component that has an entry is judged by the entry's kind
pub arrive_down : (t : Tree) (last : Last) (links : ℕ) (s p : Spot) (c : List ℕ) (xs : List Step) → bytes_eq c dot ≡ false →
    bytes_eq c dot_dot ≡ false → child_of t s c ≡ Some p
    → resolve t last links (node_at s) (step_of c ∷ xs) ≡ at_kind (is_last xs) last (Ok p) (resolve t last links (node_at p) xs)
    (λ text. after_link t last links (start_of text (node_at s)) (steps_of text ++ xs)) (kind_at p)
arrive_down t last links s p c xs a b h =
    let (z, found, same) = child_found t s p c h in
    ap (λ (x : Step). resolve t last links (node_at s) (x ∷ xs)) (step_down c a b)
    ∙ down_one t last links (node_at s) c xs
    ∙ ap (at_entry (is_last xs) last (λ n. resolve t last links n xs) (λ text. after_link t last links (start_of text (node_at s))
    (steps_of text ++ xs))) found
    ∙ ap (λ (q : Spot). at_kind (is_last xs) last (Ok q) (resolve t last links (node_at q) xs)
    (λ text. after_link t last links (start_of text (node_at s)) (steps_of text ++ xs)) (kind_at q)) same

-- what the entry's kind does to the walk
module _ (ends : Bool) (last : Last) (found go : Walked) (follow : List ℕ → Walked) where
  pub directory_goes : (k : NodeKind) → shape_of k ≡ kind.Directory → at_kind ends last found go follow k ≡ go
  directory_goes Directory h = refl
  directory_goes File h = absurd (cc h)
  directory_goes (Link text) h = absurd (cc h)

  pub file_ends : (k : NodeKind) → shape_of k ≡ kind.File → ends ≡ true → at_kind ends last found go follow k ≡ found
  file_ends Directory h e = absurd (cc h)
  file_ends File h e = ap (λ (b : Bool). if b then found else Err ENOTDIR) e
  file_ends (Link text) h e = absurd (cc h)

  pub file_fails : (k : NodeKind) → shape_of k ≡ kind.File → ends ≡ false → at_kind ends last found go follow k ≡ Err ENOTDIR
  file_fails Directory h e = absurd (cc h)
  file_fails File h e = ap (λ (b : Bool). if b then found else Err ENOTDIR) e
  file_fails (Link text) h e = absurd (cc h)

  pub link_stays : (k : NodeKind) → shape_of k ≡ kind.Link → (ends && stays last) ≡ true → at_kind ends last found go follow k ≡ found
  link_stays Directory h e = absurd (cc h)
  link_stays File h e = absurd (cc h)
  link_stays (Link text) h e = ap (λ (b : Bool). if b then found else follow text) e

  pub link_follows : (k : NodeKind) → shape_of k ≡ kind.Link → (ends && stays last) ≡ false → (text : List ℕ) × (k ≡ Link text)
      × (at_kind ends last found go follow k ≡ follow text)
  link_follows Directory h e = absurd (cc h)
  link_follows File h e = absurd (cc h)
  link_follows (Link text) h e = (text, refl, ap (λ (b : Bool). if b then found else follow text) e)

shape_directory : (k : NodeKind) → shape_of k ≡ kind.Directory → is_directory k ≡ true
shape_directory Directory h = refl
shape_directory File h = absurd (cc h)
shape_directory (Link text) h = absurd (cc h)

pub directory_stands : (t : Tree) → WellFormed t → (p : Spot) → Stands t p → shape_of (kind_at p) ≡ kind.Directory → IsDirectory t p
directory_stands t well Root stands h = refl
directory_stands t well (Held e) stands h =
    ap (λ (b : Bool). if b then Root else elim (own_entry t.entries e.node) as (λ _. Spot) [ None ↦ Root | Some z ↦ Held z ])
    (ne_eqb e.node root (λ q. let l = (well.low e.of e.component e stands).0 in absurd (omega arith)))
    ∙ ap (λ (o : Option Entry). elim o as (λ _. Spot) [ None ↦ Root | Some z ↦ Held z ])
    (placed_at t well e.of e.component e stands (shape_directory e.kind h))
