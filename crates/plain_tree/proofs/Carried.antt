-- A change that is carried out: what the store asks for, and what the plain tree holds afterwards.
use Rattle.std.proofs.Common.{◌≡◌, ℕ, ◌+◌, ◌-◌, ◌≤◌, ◌==◌, Bool, true, false, List, [], ◌∷◌, ◌++◌, length, Some, None, Option, sym, refl}
use Rattle.std.proofs.Common.{ap, ◌∙◌, subst, arith, length-append, true≢false}
use Rattle.std.specs.Prelude.{if◌then◌else◌, Ok, Err, Result, IsSome, is_some, IsTrue, ◌↔◌, OnOk}
use Rattle.std.specs.Result.{is_err}
use Rattle.std.specs.Option.{option_map}
use Rattle.directory_tree.specs.declared.change.Change.{Change}
use Rattle.plain_tree.specs.declared.directory.Node.{Node}
use Rattle.plain_tree.specs.declared.store.Store.{Store}
use Rattle.directory_tree.specs.Tree.{Tree, Entry, WellFormed, Distinct, root, find, own_entry, is_empty}
use Rattle.directory_tree.specs.Apply.{with_entry, without, placed, dropped, moved}
use Rattle.directory_tree.specs.Plain.{Plain, tree_of, outcome}
use Rattle.plain_tree.specs.inner.Store.{stored_node, Enters, Leaves, Shifts, IsOpened, IsLoose, Differ}
use Rattle.plain_tree.specs.inner.Mirror.{Mirrors, Holds, IsShort, IsEmptied, AreOther, node_for, some_parent}
use Rattle.std.proofs.lemmas.Option.{none-some}
use Rattle.directory_tree.specs.laws.Found.{Apart, empty_none, without-none}
use Rattle.directory_tree.proofs.Presence.{placed_at}
use Rattle.directory_tree.proofs.Placement.{is_node, node_same, length_dropped, length_placed, none_empty}
use Rattle.plain_tree.proofs.Mirrors.{mirrors_entered, mirrors_left, mirrors_shifted}
use Rattle.plain_tree.proofs.Held.{well_changed, holds_well, holds_step, short_entered, short_dropped, short_moved}

pub some_of : {X : Type 0} (o : Option X) → IsSome o → (x : X) × (o ≡ Some x)
some_of None h = absurd (true≢false (sym h))
some_of (Some x) h = (x, refl)

module _ (s : Store) (t : Tree) (m : Mirrors s t) (well : WellFormed t) where
  pub loose : (of : ℕ) (c : List ℕ) → IsEmptied t (find t.entries of c) → IsLoose s (stored_node s of c)
  loose of c h = subst (IsLoose s) (sym (m.nodes of c)) (elim (find t.entries of c) as (λ (o : Option Entry). IsEmptied t o →
      IsLoose s (option_map node_for o)) [
        | None ↦ λ k. tt
        | Some e ↦ λ k directory q. m.nodes e.node q ∙ ap (option_map node_for) (empty_none t.entries e.node q (k directory))
      ] h)

  pub opened_node : (of : ℕ) (c : List ℕ) → IsOpened s (stored_node s of c)
  opened_node of c = subst (IsOpened s) (sym (m.nodes of c))
      (elim (find t.entries of c) as (λ (o : Option Entry). find t.entries of c ≡ o → IsOpened s (option_map node_for o)) [
        | None ↦ λ is. tt
        | Some e ↦ λ is directory. ap is_some (m.parents e.node) ∙ elim (e.node == root) as
            (λ (b : Bool). is_some (if b then Some None else option_map some_parent (own_entry t.entries e.node)) ≡ true) [
              | true ↦ refl
              | false ↦ ap (λ (o : Option Entry). is_some (option_map some_parent o)) (placed_at t well of c e is directory)
            ]
      ] refl)

  pub differ : (of : ℕ) (c : List ℕ) (into : ℕ) (name : List ℕ) → AreOther (find t.entries of c) (find t.entries into name) →
      Differ (stored_node s of c) (stored_node s into name)
  differ of c into name h = subst (λ (o : Option Node). Differ o (stored_node s into name)) (sym (m.nodes of c))
      (subst (Differ (option_map node_for (find t.entries of c))) (sym (m.nodes into name))
      (apart_nodes (find t.entries of c) (find t.entries into name) h))
    where
      apart_nodes : (a b : Option Entry) → AreOther a b → Differ (option_map node_for a) (option_map node_for b)
      apart_nodes None b k d p = absurd (true≢false (sym p))
      apart_nodes (Some e) None k d p = refl
      apart_nodes (Some e) (Some z) k d p = elim (is_node z d) as (λ (x : Bool). is_node z d ≡ x → x ≡ false) [
        | true ↦ λ q. absurd (k ((node_same z d q).0 ∙ sym (node_same e d p).0))
        | false ↦ λ q. refl
      ] refl

-- two places, since two nodes are there
pub keys_apart : (t : Tree) (of : ℕ) (c : List ℕ) (into : ℕ) (name : List ℕ) → IsSome (find t.entries of c) →
    AreOther (find t.entries of c) (find t.entries into name) → Apart of c into name
keys_apart t of c into name some other a b =
    let (e, is) = some_of (find t.entries of c) some in
    let there : find t.entries into name ≡ Some e = (λ i. find t.entries (a i) (b i)) ∙ is in
    other_none (find t.entries of c) (find t.entries into name) e is there other
  where
    other_none : (x y : Option Entry) (e : Entry) → x ≡ Some e → y ≡ Some e → AreOther x y → ⊥
    other_none x y e p q h = (subst (λ (o : Option Entry). AreOther o (Some e)) p (subst (AreOther x) q h)) refl

length_moved : (es : List Entry) (of : ℕ) (c : List ℕ) (into : ℕ) (name : List ℕ) → Distinct es →
    length (placed of c into name (without into name es)) + (if is_some (find es into name) then 1 else 0) ≡ length es
length_moved es of c into name distinct = elim (find es into name) as (λ (o : Option Entry). find es into name ≡ o →
    length (placed of c into name (without into name es)) + (if is_some o then 1 else 0) ≡ length es) [
      | None ↦ λ is. let a = length_placed (without into name es) of c into name in let b = ap length (without-none es into name is) in
          omega arith
      | Some e ↦ λ is. let a = length_placed (without into name es) of c into name in let b = length_dropped es into name e distinct is in
          omega arith
    ] refl

module _ (s : Store) (n number made : ℕ) (p q : Plain) (same : p ≡ q) (h : Holds s n number made p) where
  pub held : Holds s n number made q
  held = subst (Holds s n number made) same h

  pub well_held : WellFormed (tree_of q)
  well_held = holds_well s n number made q held

module _ (s : Store) (n number made : ℕ) (p q : Plain) (change : Change) (same : p ≡ q) (h : Holds s n number made p) where
  pub holds_entered : (x : Entry) (next : ℕ) (u : Store) (events : List Change) → outcome q change ≡ Ok (with_entry (tree_of q) x next) →
      find (tree_of q).entries x.of x.component ≡ None → IsShort x
      → next ≤ length q.history + 3 → Enters s u x.of x.component (node_for x) → events ≡ p.history ++ change ∷ [] →
      Holds u (n + 1) next (made + 1) record { capacity = p.capacity; history = events }
  holds_entered x next u events is free fits few enters more =
      let k = held s n number made p q same h in
      let count : n + 1 ≡ length ((tree_of q).entries ++ x ∷ []) = omega (arith, k.entries, length-append (tree_of q).entries (x ∷ [])) in
      let low : next ≤ made + 1 + 2 = omega (arith, k.version, few) in
      holds_step s n number made p q change (with_entry (tree_of q) x next) u (n + 1) next (made + 1) events same h is more
      (mirrors_entered s u (tree_of q) x next k.mirrors free (well_held s n number made p q same h)
      (well_changed q change (with_entry (tree_of q) x next) k.accepted is) enters)
      count refl refl low (short_entered (tree_of q) x next free k.short fits)

  pub holds_left : (of : ℕ) (c : List ℕ) (u : Store) (events : List Change) → outcome q change ≡ Ok (dropped (tree_of q) of c) →
      IsSome (find (tree_of q).entries of c)
      → Leaves s u of c → events ≡ p.history ++ change ∷ [] → Holds u (n - 1) number (made + 1) record {
        capacity =
            p.capacity;
        history = events;
      }
  holds_left of c u events is there leaves more =
      let k = held s n number made p q same h in
      let (e, at) = some_of (find (tree_of q).entries of c) there in
      let count : n - 1 ≡ length (without of c (tree_of q).entries) =
      omega (arith, k.entries, length_dropped (tree_of q).entries of c e (well_held s n number made p q same h).distinct at) in
      let low : number ≤ made + 1 + 2 = omega (arith, k.few) in
      holds_step s n number made p q change (dropped (tree_of q) of c) u (n - 1) number (made + 1) events same h is more
      (mirrors_left s u (tree_of q) of c e k.mirrors at (well_held s n number made p q same h)
      (well_changed q change (dropped (tree_of q) of c) k.accepted is) leaves)
      count k.next refl low (short_dropped (tree_of q) of c k.short)

  pub holds_shifted : (of : ℕ) (c : List ℕ) (into : ℕ) (name : List ℕ) (u : Store) (events : List Change) (gone : ℕ) → outcome q change
      ≡ Ok (moved (tree_of q) of c into name)
      → IsSome (find (tree_of q).entries of c) → AreOther (find (tree_of q).entries of c) (find (tree_of q).entries into name) →
      length name ≤ 255 → Shifts s u of c into name → gone ≡ (if is_some (stored_node s into name) then 1 else 0) → events ≡ p.history
      ++ change ∷ [] → Holds u (n - gone) number (made + 1) record { capacity = p.capacity; history = events }
  holds_shifted of c into name u events gone is there other fits shifts gone_is more =
      let k = held s n number made p q same h in
      let (e, at) = some_of (find (tree_of q).entries of c) there in
      let apart = keys_apart (tree_of q) of c into name there other in
      let some : is_some (stored_node s into name) ≡ is_some (find (tree_of q).entries into name) = ap is_some (k.mirrors.nodes into name)
      ∙ map_some (find (tree_of q).entries into name) in
      let gone_now : gone ≡ (if is_some (find (tree_of q).entries into name) then 1 else 0) =
      gone_is ∙ ap (λ (b : Bool). if b then 1 else 0) some in
      let count : n - gone ≡ length (placed of c into name (without into name (tree_of q).entries)) =
      omega (
        arith,
        k.entries,
        gone_now,
        length_moved (tree_of q).entries of c into name
            (well_held s n number made p q same h).distinct,
      ) in
      let low : number ≤ made + 1 + 2 = omega (arith, k.few) in
      holds_step s n number made p q change (moved (tree_of q) of c into name) u (n - gone) number (made + 1) events same h is more
      (mirrors_shifted s u (tree_of q) of c into name e k.mirrors at apart (well_held s n number made p q same h)
      (well_changed q change (moved (tree_of q) of c into name) k.accepted is) shifts)
      count k.next refl low (short_moved (tree_of q) of c into name e at apart fits k.short)
    where
      map_some : (o : Option Entry) → is_some (option_map node_for o) ≡ is_some o
      map_some None = refl
      map_some (Some e) = refl

pub empty_told : (s : Store) (t : Tree) (d : ℕ) (b : Bool) → Mirrors s t → IsTrue b ↔ ((q : List ℕ) → stored_node s d q ≡ None) →
    b ≡ is_empty t.entries d
empty_told s t d b m h = elim b as (λ (k : Bool). (IsTrue k → (q : List ℕ) → stored_node s d q ≡ None) →
    (((q : List ℕ) → stored_node s d q ≡ None) → IsTrue k) → k ≡ is_empty t.entries d) [
      | true ↦ λ there back. sym (none_empty t.entries d (λ q. unmapped (find t.entries d q) (sym (m.nodes d q) ∙ there refl q)))
      | false ↦ λ there back. elim (is_empty t.entries d) as (λ (k : Bool). is_empty t.entries d ≡ k → false ≡ k) [
        | true ↦ λ e. back (λ q. m.nodes d q ∙ ap (option_map node_for) (empty_none t.entries d q e))
        | false ↦ λ e. refl
      ] refl
    ] h.0 h.1
  where
    unmapped : (o : Option Entry) → option_map node_for o ≡ None → o ≡ None
    unmapped None e = refl
    unmapped (Some x) e = absurd (none-some (node_for x) (sym e))

pub on_ok : {X E : Type 0} (r : Result X E) {P : Type 0} → false ≡ is_err r → OnOk r P → P
on_ok (Ok x) fine h = h
on_ok (Err e) fine h = absurd (true≢false (sym fine))
