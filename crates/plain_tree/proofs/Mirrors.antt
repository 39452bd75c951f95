-- A store that holds the entries of a tree holds those of the next after each change.
use Rattle.std.proofs.Common.{◌≡◌, ℕ, ◌==◌, ◌&&◌, Bool, true, false, List, Some, None, Option, sym, refl, ap, ◌∙◌, arith, eqb-true, eq-eqb}
use Rattle.std.proofs.Common.{ne_eqb, true≢false}
use Rattle.std.specs.Prelude.{if◌then◌else◌, bytes_eq}
use Rattle.std.specs.Option.{option_map}
use Rattle.plain_tree.specs.declared.directory.Node.{Node}
use Rattle.plain_tree.specs.declared.directory.Parent.{Parent}
use Rattle.plain_tree.specs.declared.store.Store.{Store}
use Rattle.directory_tree.specs.Tree.{Tree, Entry, WellFormed, root, root_alone, find, own_entry}
use Rattle.directory_tree.specs.Apply.{entry, with_entry, dropped, moved}
use Rattle.plain_tree.specs.inner.Store.{stored_node, stored_parent, new_parent, is_numbered, Enters, Leaves, Shifts, SetsParent}
use Rattle.plain_tree.specs.inner.Mirror.{Mirrors, node_for, some_parent, stands_at}
use Rattle.std.proofs.lemmas.Slice.Eq.{bytes_eq-Decides}
use Rattle.directory_tree.specs.laws.Found.{Apart}
use Rattle.directory_tree.proofs.Placement.{is_key, is_node, node_same, find_entered, own_entry_entered, find_dropped, own_entry_dropped}
use Rattle.directory_tree.proofs.Placement.{find_moved, own_entry_moved, is_gone, gone_found}

abbrev nowhere : Option (Option Parent)
nowhere = None

abbrev at_top : Option (Option Parent)
at_top = Some None

-- the root alone
pub mirrors_root : (s u : Store) → ((d : ℕ) → stored_parent s d ≡ None) → ((d : ℕ) (q : List ℕ) → stored_node s d q ≡ None) →
    SetsParent s u root (Some None) → Mirrors u root_alone
mirrors_root s u none empty sets = record {
  nodes = λ d q. sets.nodes d q ∙ empty d q;
  parents = λ d. sets.parents d ∙ ap (λ (o : Option (Option Parent)). if root == d then at_top else o) (none d)
      ∙ elim (d == root) as (λ (b : Bool). (d == root) ≡ b → (if root == d then at_top else nowhere) ≡ (if b then at_top else nowhere)) [
        | true ↦ λ q. ap (λ (b : Bool). if b then at_top else nowhere) (eq-eqb root d (sym (eqb-true d root q)))
        | false ↦ λ q. ap (λ (b : Bool). if b then at_top else nowhere)
            (ne_eqb root d (λ e. true≢false (sym (eq-eqb d root (sym e)) ∙ q)))
      ] refl;
}

-- where a directory is, in a tree whose places changed at one number
stands_by : (t u : Tree) (d : ℕ) (b : Bool) (w : Option Entry) → own_entry u.entries d ≡ (if b then w else own_entry t.entries d) →
    (b ≡ true → (d == root) ≡ false) → stands_at u d ≡ (if b then option_map some_parent w else stands_at t d)
stands_by t u d true w h past = ap (λ (k : Bool). if k then Some None else option_map some_parent (own_entry u.entries d)) (past refl)
    ∙ ap (option_map some_parent) h
stands_by t u d false w h past = ap (λ (o : Option Entry). if d == root then Some None else option_map some_parent o) h

stands_twice : (t u : Tree) (d : ℕ) (a b : Bool) (w : Option Entry) → own_entry u.entries d
    ≡ (if a then w else (if b then None else own_entry t.entries d)) → (a ≡ true → (d == root) ≡ false) → (b ≡ true → (d == root) ≡ false)
    → stands_at u d ≡ (if a then option_map some_parent w else (if b then nowhere else stands_at t d))
stands_twice t u d true b w h past gone = stands_by t u d true w h past
stands_twice t u d false b w h past gone = stands_by t u d b None h gone

-- a node of the tree isn't the root's
past_root : (t : Tree) (of : ℕ) (c : List ℕ) (e : Entry) (d : ℕ) → WellFormed t → find t.entries of c ≡ Some e → is_node e d ≡ true →
    (d == root) ≡ false
past_root t of c e d well is h = let k = (node_same e d h).0 in let low = (well.low of c e is).0 in
    ne_eqb d root (λ same. absurd (omega arith))

pub mirrors_entered : (s u : Store) (t : Tree) (x : Entry) (next : ℕ) → Mirrors s t → find t.entries x.of x.component ≡ None →
    WellFormed t → WellFormed (with_entry t x next)
    → Enters s u x.of x.component (node_for x) → Mirrors u (with_entry t x next)
mirrors_entered s u t x next m free well_t well_u e = record {
  nodes = λ d q. e.nodes d q ∙ ap (λ (o : Option Node). if is_key x.of x.component d q then Some (node_for x) else o) (m.nodes d q)
      ∙ sym (ap (option_map node_for) (find_entered t x next free d q)
      ∙ elim (is_key x.of x.component d q) as (λ (b : Bool). option_map node_for (if b then Some x else find t.entries d q)
      ≡ (if b then Some (node_for x) else option_map node_for (find t.entries d q))) [ true ↦ refl | false ↦ refl ]);
  parents = λ d. e.parents d ∙ ap (λ (o : Option (Option Parent)). if is_node x d then Some (some_parent x) else o) (m.parents d)
      ∙ sym (stands_by t (with_entry t x next) d (is_node x d) (Some x) (own_entry_entered t x next free well_t well_u d)
      (λ h. past_root (with_entry t x next) x.of x.component x d well_u (find_entered t x next free x.of x.component
      ∙ ap (λ (b : Bool). if b then Some x else find t.entries x.of x.component) (own x.of x.component)) h));
}
  where
    own : (of : ℕ) (c : List ℕ) → is_key of c of c ≡ true
    own of c = ap (λ (b : Bool). b && bytes_eq c c) (eq-eqb of of refl) ∙ (bytes_eq-Decides c c).1 refl

numbered_is : (o : Option Entry) (d : ℕ) → is_numbered (option_map node_for o) d ≡ is_gone o d
numbered_is None d = refl
numbered_is (Some e) d = refl

pub mirrors_left : (s u : Store) (t : Tree) (of : ℕ) (c : List ℕ) (e : Entry) → Mirrors s t → find t.entries of c ≡ Some e → WellFormed t →
    WellFormed (dropped t of c) → Leaves s u of c → Mirrors u (dropped t of c)
mirrors_left s u t of c e m is well_t well_u l = record {
  nodes = λ d q. l.nodes d q ∙ ap (λ (o : Option Node). if is_key of c d q then None else o) (m.nodes d q)
      ∙ sym (ap (option_map node_for) (find_dropped t of c e is d q)
      ∙ elim (is_key of c d q) as (λ (b : Bool). option_map node_for (if b then None else find t.entries d q)
      ≡ (if b then None else option_map node_for (find t.entries d q))) [ true ↦ refl | false ↦ refl ]);
  parents = λ d. l.parents d
      ∙ (λ i. if is_numbered ((m.nodes of c ∙ ap (option_map node_for) is) i) d then None else m.parents d i)
      ∙ sym (stands_by t (dropped t of c) d (is_node e d) None (own_entry_dropped t of c e is well_t well_u d)
      (past_root t of c e d well_t is));
}

pub mirrors_shifted : (s u : Store) (t : Tree) (of : ℕ) (c : List ℕ) (into : ℕ) (name : List ℕ) (old : Entry) → Mirrors s t →
    find t.entries of c ≡ Some old → Apart of c into name → WellFormed t → WellFormed (moved t of c into name)
    → Shifts s u of c into name → Mirrors u (moved t of c into name)
mirrors_shifted s u t of c into name old m is other well_t well_u h =
    let new = entry into name old.node old.kind in
    let moved_node : stored_node s of c ≡ Some (node_for old) = m.nodes of c ∙ ap (option_map node_for) is in
    record {
      nodes = λ d q. h.nodes d q
          ∙ (λ i. if is_key into name d q then moved_node i else (if is_key of c d q then None else m.nodes d q i))
          ∙ sym (ap (option_map node_for) (find_moved t of c into name old is other d q)
          ∙ elim (is_key into name d q) as
          (λ (b : Bool). option_map node_for (if b then Some new else (if is_key of c d q then None else find t.entries d q))
          ≡ (if b then Some (node_for old) else (if is_key of c d q then None else option_map node_for (find t.entries d q)))) [
            | true ↦ refl
            | false ↦ elim (is_key of c d q) as (λ (b : Bool). option_map node_for (if b then None else find t.entries d q)
                ≡ (if b then None else option_map node_for (find t.entries d q))) [ true ↦ refl | false ↦ refl ]
          ]);
      parents = λ d. h.parents d
          ∙ (λ i. if is_numbered (moved_node i) d then Some (Some (new_parent into name)) else
          (if is_numbered (m.nodes into name i) d then None else m.parents d i))
          ∙ ap (λ (b : Bool). if is_node old d then Some (Some (new_parent into name)) else (if b then None else stands_at t d))
          (numbered_is (find t.entries into name) d)
          ∙ sym (stands_twice t (moved t of c into name) d (is_node old d) (is_gone (find t.entries into name) d) (Some new)
          (own_entry_moved t of c into name old is other well_t well_u d) (past_root t of c old d well_t is)
          (λ g. let (e, there, at) = gone_found t into name d g in past_root t into name e d well_t there at));
    }
