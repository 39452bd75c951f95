-- The worlds that a plain tree is, and the laws of a look for it.
use Rattle.std.proofs.Common.{ap, ◌∙◌, subst, eqb-true}
use Rattle.std.specs.Prelude.{◌≡◌, ℕ, ◌==◌, ◌&&◌, Bool, true, false, List, [], ◌∷◌, Option, Some, None, refl, bytes_eq, if◌then◌else◌}
use Rattle.std.proofs.lemmas.Slice.Eq.{bytes_eq-Decides}
use Rattle.plain_tree.specs.declared.entry.PlainEntry.{PlainEntry}
use Rattle.plain_tree.specs.declared.entry.PlainEntry.TheVariants as entry
use Rattle.directory_tree.specs.Tree.{Tree, Entry, find}
use Rattle.directory_tree.specs.Plain.{Plain, tree_of}
use Rattle.plain_tree.specs.PlainEntry.{key_component, spot_at, means_in}
use Rattle.directory_tree.specs.Spots.{Stands}
use Rattle.path_lookup.specs.World.{World}

-- worlds with this tree
abbrev pub SeesPlain : Plain → World → Type 0
SeesPlain p w = w.tree ≡ tree_of p

some_inj : (x y : Entry) → Some x ≡ Some y → x ≡ y
some_inj x y h = ap (λ (o : Option Entry). elim o as (λ _. Entry) [ Some z ↦ z | None ↦ x ]) h

none_is_some : (x : Entry) → None ≡ Some x → ⊥
none_is_some x h = subst (λ (o : Option Entry). elim o as (λ _. Type 0) [ None ↦ Unit {0} | Some z ↦ ⊥ ]) h tt

found_at : (es : List Entry) (d : ℕ) (c : List ℕ) (e : Entry) → find es d c ≡ Some e → (e.of ≡ d) × (e.component ≡ c)
found_at [] d c e h = absurd (none_is_some e h)
found_at (y ∷ es) d c e h =
    elim (y.of == d) as (λ (a : Bool). (y.of == d) ≡ a → (if a && bytes_eq y.component c then Some y else find es d c) ≡ Some e →
    (e.of ≡ d) × (e.component ≡ c)) [
      | true ↦ λ p. elim (bytes_eq y.component c) as (λ (b : Bool). bytes_eq y.component c ≡ b → (if b then Some y else find es d c)
          ≡ Some e → (e.of ≡ d) × (e.component ≡ c)) [
            | true ↦ λ q r. (
              subst (λ (z : Entry). z.of ≡ d) (some_inj y e r) (eqb-true y.of d p),
              subst (λ (z : Entry). z.component ≡ c)
                  (some_inj y e r) ((bytes_eq-Decides y.component c).0 q),
            )
            | false ↦ λ q r. found_at es d c e r
          ] refl
      | false ↦ λ p r. found_at es d c e r
    ] refl h

found_stands : (t : Tree) (d : ℕ) (c : List ℕ) → Stands t (spot_at (find t.entries d c))
found_stands t d c = elim (find t.entries d c) as (λ (o : Option Entry). find t.entries d c ≡ o → Stands t (spot_at o)) [
  | None ↦ λ is. tt
  | Some e ↦ λ is. let k = found_at t.entries d c e is in (λ i. find t.entries (k.0 i) (k.1 i)) ∙ is
] refl

-- what an entry stands for is in the tree
pub entry_stands : (t : Tree) (e : PlainEntry) → Stands t (means_in t e)
entry_stands t entry.Root = tt
entry_stands t (entry.Held key) = found_stands t key.of (key_component key)
