-- A name, put together from its end to its front.
use Rattle.std.proofs.Common.{◌≡◌, ℕ, zero, suc, ◌==◌, Bool, true, List, [], ◌∷◌, ◌++◌, length, Some, None, Option, sym, refl, ap, ◌∙◌}
use Rattle.std.proofs.Common.{arith, append_assoc, ne_eqb}
use Rattle.std.specs.Prelude.{if◌then◌else◌, IsSome}
use Rattle.directory_tree.specs.declared.node.Kind.TheVariants as kind
use Rattle.directory_tree.specs.declared.node.NodeKind.{NodeKind}
use Rattle.directory_tree.specs.declared.node.NodeKind.TheVariants.{Directory, File, Link}
use Rattle.directory_tree.specs.Components.{slash, is_filled}
use Rattle.directory_tree.specs.Tree.{Tree, Entry, WellFormed, root, own_entry, is_directory}
use Rattle.directory_tree.specs.Walk.{Spot, spot_of}
use Rattle.directory_tree.specs.Walk.Spot.{Root, Held}
use Rattle.directory_tree.specs.Spots.{Stands, shape_of, kind_at, component_at, directory_of}
use Rattle.directory_tree.specs.Name.{name_up, directory_name, name_of}
use Rattle.std.proofs.lemmas.Option.{none-some, same_Some}
use Rattle.directory_tree.proofs.Depth.{Deep, deep, shallow, up_deep}

-- the name down to an entry, without a slash after it
abbrev pub stem : Tree → Spot → List ℕ
stem t Root = []
stem t (Held e) = directory_name t e.of ++ slash ∷ e.component

-- what follows it
abbrev pub closing : Spot → List ℕ
closing spot = if is_directory (kind_at spot) then slash ∷ [] else []

pub name_split : (t : Tree) (spot : Spot) → name_of t spot ≡ stem t spot ++ closing spot
name_split t Root = refl
name_split t (Held e) = sym (append_assoc (directory_name t e.of) (slash ∷ e.component) (closing (Held e)))

-- the name of a directory is the stem of its entry
pub stem_spot : (t : Tree) (m d : ℕ) → Deep t.entries m d → directory_name t d ≡ stem t (spot_of t d)
stem_spot t zero d h =
    up_deep t.entries zero (length t.entries) d h (omega arith)
    ∙ ap (λ (b : Bool). stem t (if b then Root else elim (own_entry t.entries d) as (λ _. Spot) [ None ↦ Root | Some e ↦ Held e ]))
    (sym (ap (λ (z : ℕ). z == root) h))
stem_spot t (suc m) d (e, is, other, up) =
    let low = shallow t.entries (suc m) d (e, is, other, up) in
    up_deep t.entries (suc m) (length t.entries) d (e, is, other, up) low
    ∙ ap (λ (b : Bool). if b then [] else elim (own_entry t.entries d) as (λ _. List ℕ) [
      | None ↦ []
      | Some e ↦ name_up t.entries m e.of
          ++ slash ∷ e.component
    ]) (ne_eqb d root other)
    ∙ ap (λ (o : Option Entry). elim o as (λ _. List ℕ) [ None ↦ [] | Some e ↦ name_up t.entries m e.of ++ slash ∷ e.component ]) is
    ∙ ap (λ (z : List ℕ). z ++ slash ∷ e.component) (sym (up_deep t.entries m (length t.entries) e.of up (omega arith)))
    ∙ sym (ap (λ (o : Option Entry). stem t (elim o as (λ _. Spot) [ None ↦ Root | Some e ↦ Held e ])) is)
    ∙ sym (ap (λ (b : Bool). stem t (if b then Root else elim (own_entry t.entries d) as (λ _. Spot) [ None ↦ Root | Some e ↦ Held e ]))
    (ne_eqb d root other))

-- one step up
pub stem_up : (t : Tree) → WellFormed t → (spot p : Spot) → Stands t spot → directory_of t spot ≡ Some p → (rest : List ℕ) →
    stem t spot ++ rest ≡ stem t p ++ slash ∷ (component_at spot ++ rest)
stem_up t well Root p stands h rest = absurd (none-some p h)
stem_up t well (Held e) p stands h rest =
    let (n, l) = well.rooted e.of e.component e stands in
    let (m, low, up) = deep t.entries n e.of l in
    append_assoc (directory_name t e.of) (slash ∷ e.component) rest
    ∙ ap (λ (z : List ℕ). z ++ slash ∷ (e.component ++ rest)) (stem_spot t m e.of up ∙ ap (stem t) (same_Some (spot_of t e.of) p h))

-- an entry of a directory has a component
pub has_component : (t : Tree) → WellFormed t → (spot : Spot) → Stands t spot → IsSome (directory_of t spot) →
    is_filled (component_at spot) ≡ true
has_component t well Root stands h = absurd (cc h)
has_component t well (Held e) stands h = (well.named e.of e.component e stands).filled

pub closing_directory : (spot : Spot) → shape_of (kind_at spot) ≡ kind.Directory → closing spot ≡ slash ∷ []
closing_directory Root h = refl
closing_directory (Held e) h = of_kind e.kind h
  where
    of_kind : (k : NodeKind) → shape_of k ≡ kind.Directory → (if is_directory k then slash ∷ [] else []) ≡ slash ∷ []
    of_kind Directory h = refl
    of_kind File h = absurd (cc h)
    of_kind (Link text) h = absurd (cc h)

pub closing_other : (spot : Spot) → (shape_of (kind_at spot) ≡ kind.Directory → ⊥) → closing spot ≡ []
closing_other Root h = absurd (h refl)
closing_other (Held e) h = of_kind e.kind h
  where
    of_kind : (k : NodeKind) → (shape_of k ≡ kind.Directory → ⊥) → (if is_directory k then slash ∷ [] else []) ≡ []
    of_kind Directory h = absurd (h refl)
    of_kind File h = refl
    of_kind (Link text) h = refl
