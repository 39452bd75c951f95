-- A node exists as long as it has an entry, and stays what it was.
use Rattle.std.proofs.Common.{◌≡◌, ◌≢◌, ◌↔◌, ℕ, ◌+◌, ◌==◌, Bool, true, false, List, Some, None, Option, sym, refl, ap, ◌∙◌, arith}
use Rattle.std.proofs.Common.{eqb-true, eq-eqb}
use Rattle.std.specs.Prelude.{if◌then◌else◌, Ok}
use mathlib.Core.Logic.{◌⊎◌, inl, inr}
use Rattle.directory_tree.specs.declared.node.NodeKind.{NodeKind}
use Rattle.directory_tree.specs.declared.node.NodeKind.TheVariants.{Directory}
use Rattle.directory_tree.specs.declared.change.Change.{Change}
use Rattle.directory_tree.specs.Tree.{Tree, Entry, WellFormed, root, find, entry_kind, kind_of}
use Rattle.directory_tree.specs.Apply.{apply}
use Rattle.std.proofs.lemmas.Option.{none-some}
use Rattle.directory_tree.proofs.NodeKinds.{kind_by_entry, kind_found}
use Rattle.directory_tree.proofs.Changes.{apply_keeps}
use Rattle.directory_tree.proofs.Origins.{HasNode, apply_comes}

module _ (t : Tree) (well : WellFormed t) where
  -- The root is a directory.
  root_kind : (n : ℕ) → n ≡ root → kind_of t n ≡ Some Directory
  root_kind n h = ap (λ (b : Bool). if b then Some Directory else entry_kind t.entries n) (eq-eqb n root h)

  -- A node that has an entry has its kind.
  kind_there : (n : ℕ) (k : NodeKind) → HasNode t n k → kind_of t n ≡ Some k
  kind_there n k (d, c, e, is, node, kind) = ap (kind_of t) (sym node) ∙ kind_by_entry t d c e well is ∙ ap Some kind

  -- A node that exists is the root, or has an entry.
  stands_by : (n : ℕ) (k : NodeKind) → kind_of t n ≡ Some k → (n ≡ root) ⊎ HasNode t n k
  stands_by n k h =
      elim (n == root) as (λ (b : Bool). (n == root) ≡ b → (n ≡ root) ⊎ HasNode t n k) [
        | true ↦ λ q. inl (eqb-true n root q)
        | false ↦ λ q.
            let (e, is, node, kind) = kind_found t.entries n k well.distinct
            (sym (ap (λ (b : Bool). if b then Some Directory else entry_kind t.entries n) q) ∙ h) in
            inr (e.of, e.component, e, is, node, kind)
      ] refl

  -- A node is gone exactly if it isn't the root and has no entry.
  pub gone_without_entry : (n : ℕ) → (kind_of t n ≡ None)
      ↔ ((n ≢ root) × ((d : ℕ) (c : List ℕ) (e : Entry) → find t.entries d c ≡ Some e → e.node ≢ n))
  gone_without_entry n = (
    (λ h. (
      (λ p. none-some Directory (sym h ∙ root_kind n p)),
      (λ d c e is node. none-some e.kind (sym h ∙ kind_there n e.kind (d, c, e, is, node, refl))),
    )),
    (λ h. elim (kind_of t n) as (λ (o : Option NodeKind). kind_of t n ≡ o → o ≡ None) [
      | None ↦ λ is. refl
      | Some k ↦ λ is. elim (stands_by n k is) [
        | inl p ↦ absurd (h.0 p)
        | inr (d, c, e, there, node, kind) ↦ absurd (h.1 d c e there node)
      ]
    ] refl),
  )

  -- No node has the next number.
  next_unused : (n : ℕ) (k : NodeKind) → n ≡ t.next → kind_of t n ≡ Some k → ⊥
  next_unused n k is h = elim (stands_by n k h) [
    | inl p ↦ let past = well.past_root in absurd (omega arith)
    | inr (d, c, e, there, node, kind) ↦ let low = (well.low d c e there).1 in absurd (omega arith)
  ]

-- A node that exists after a change was there before with its kind, or is the next.
came : (t u : Tree) (room : Bool) (change : Change) (n : ℕ) (k : NodeKind) → WellFormed t → apply t room change ≡ Ok u →
    kind_of u n ≡ Some k → (kind_of t n ≡ Some k) ⊎ ((n ≡ t.next) × (u.next ≡ t.next + 1))
came t u room change n k well h is = elim (stands_by u (apply_keeps t u room change well h) n k is) [
  | inl p ↦ inl (root_kind t well n p ∙ sym (root_kind u (apply_keeps t u room change well h) n p) ∙ is)
  | inr (d, c, z, there, node, kind) ↦ elim (apply_comes t u room change h d c z there) [
    | inl old ↦ inl (ap (kind_of t) (sym node) ∙ kind_there t well z.node z.kind old ∙ ap Some kind)
    | inr new ↦ inr (sym node ∙ new.0, new.1)
  ]
]

-- A node that exists is what it was, or is gone after a change.
pub kept_or_gone : (t u : Tree) (room : Bool) (change : Change) (n : ℕ) (kind : NodeKind) → WellFormed t → apply t room change ≡ Ok u →
    kind_of t n ≡ Some kind → (kind_of u n ≡ Some kind) ⊎ (kind_of u n ≡ None)
kept_or_gone t u room change n kind well h stood =
    elim (kind_of u n) as (λ (o : Option NodeKind). kind_of u n ≡ o → (o ≡ Some kind) ⊎ (o ≡ None)) [
      | None ↦ λ is. inr refl
      | Some k ↦ λ is. elim (came t u room change n k well h is) [
        | inl same ↦ inl (sym same ∙ stood)
        | inr new ↦ absurd (next_unused t well n kind new.0 stood)
      ]
    ] refl

-- A node that is new has the next number.
pub new_is_next : (t u : Tree) (room : Bool) (change : Change) (n : ℕ) (kind : NodeKind) → WellFormed t → apply t room change ≡ Ok u →
    kind_of t n ≡ None → kind_of u n ≡ Some kind → (n ≡ t.next) × (u.next ≡ t.next + 1)
new_is_next t u room change n kind well h none is = elim (came t u room change n kind well h is) [
  | inl same ↦ absurd (none-some kind (sym none ∙ same))
  | inr new ↦ new
]
