-- The kind of a node is that of any of its entries.
use Rattle.std.proofs.Common.{◌≡◌, ℕ, ◌==◌, Bool, true, false, List, [], ◌∷◌, Some, sym, refl}
use Rattle.std.proofs.Common.{ap, ◌∙◌, arith, eqb-true, eq-eqb, ne_eqb, true≢false}
use Rattle.std.specs.Prelude.{if◌then◌else◌}
use Rattle.directory_tree.specs.declared.node.NodeKind.{NodeKind}
use Rattle.directory_tree.specs.declared.node.NodeKind.TheVariants.{Directory}
use Rattle.directory_tree.specs.Tree.{Tree, Entry, WellFormed, Distinct, root, find, is_at, entry_kind, kind_of}
use Rattle.std.proofs.lemmas.Option.{none-some, same_Some}
use Rattle.directory_tree.proofs.Walks.{first, later}

has_kind : (es : List Entry) (d : ℕ) (c : List ℕ) (e : Entry) → find es d c ≡ Some e → (k : NodeKind) × (entry_kind es e.node ≡ Some k)
has_kind [] d c e h = absurd (none-some e h)
has_kind (y ∷ es) d c e h =
    elim (y.node == e.node) as (λ (b : Bool). (y.node == e.node) ≡ b → (k : NodeKind)
    × ((if b then Some y.kind else entry_kind es e.node) ≡ Some k)) [
      | true ↦ λ q. (y.kind, refl)
      | false ↦ λ q. elim (is_at d c y) as (λ (b : Bool). (if b then Some y else find es d c) ≡ Some e → (k : NodeKind)
          × (entry_kind es e.node ≡ Some k)) [
            | true ↦ λ r. absurd (true≢false (sym (eq-eqb y.node e.node (ap (λ (x : Entry). x.node) (same_Some y e r))) ∙ q))
            | false ↦ λ r. has_kind es d c e r
          ] h
    ] refl

-- the kind of a node is that of an entry that it has
pub kind_found : (es : List Entry) (n : ℕ) (k : NodeKind) → Distinct es → entry_kind es n ≡ Some k →
    (z : Entry) × (find es z.of z.component ≡ Some z) × (z.node ≡ n) × (z.kind ≡ k)
kind_found [] n k distinct h = absurd (none-some k h)
kind_found (y ∷ es) n k distinct h =
    elim (y.node == n) as (λ (b : Bool). (y.node == n) ≡ b → (if b then Some y.kind else entry_kind es n) ≡ Some k →
    (z : Entry) × (find (y ∷ es) z.of z.component ≡ Some z) × (z.node ≡ n) × (z.kind ≡ k)) [
      | true ↦ λ q r. (y, first y es, eqb-true y.node n q, same_Some y.kind k r)
      | false ↦ λ q r. let (z, found, node, kind) = kind_found es n k distinct.1 r in (z, later y z es distinct.0 found, node, kind)
    ] refl h

pub kind_by_entry : (t : Tree) (d : ℕ) (c : List ℕ) (e : Entry) → WellFormed t → find t.entries d c ≡ Some e →
    kind_of t e.node ≡ Some e.kind
kind_by_entry t d c e well h =
    let (k, is) = has_kind t.entries d c e h in
    let (z, found, node, kind) = kind_found t.entries e.node k well.distinct is in
    ap (λ (b : Bool). if b then Some Directory else entry_kind t.entries e.node)
    (ne_eqb e.node root (λ p. let l = (well.low d c e h).0 in absurd (omega arith)))
    ∙ is ∙ ap Some (sym kind ∙ well.one_kind z.of z.component d c z e found h node)
