-- The place of a directory, by what is found; and what is found after each change, at every place.
use Rattle.std.proofs.Common.{◌≡◌, ℕ, suc, ◌+◌, ◌==◌, ◌&&◌, Bool, true, false, List, [], ◌∷◌, ◌++◌, length, Some, None, Option, sym, refl}
use Rattle.std.proofs.Common.{ap, ◌∙◌, arith, eqb-true, eq-eqb, true≢false}
use Rattle.std.specs.Prelude.{if◌then◌else◌, bytes_eq}
use mathlib.Core.Logic.{◌⊎◌, inl, inr}
use Rattle.directory_tree.specs.Tree.{Tree, Entry, WellFormed, Distinct, root, find, own_entry, is_at, is_directory, is_empty}
use Rattle.directory_tree.specs.Apply.{entry, with_entry, without, dropped, placed, moved}
use Rattle.std.proofs.lemmas.Option.{none-some, same_Some}
use Rattle.std.proofs.lemmas.Bool.{and_parts}
use Rattle.std.proofs.lemmas.Slice.Eq.{bytes_eq-Decides}
use Rattle.directory_tree.specs.laws.Found.{found_at, at_once, is_at-same, Apart, put_at}
use Rattle.directory_tree.specs.laws.Found.{find-append_old, find-append_new, find-without_same}
use Rattle.directory_tree.specs.laws.Found.{find-without_other, find-placed_new, find-placed_old, find-placed_else, without-none}
use Rattle.directory_tree.proofs.Walks.{IsPlace, own_entry_found}
use Rattle.directory_tree.proofs.Presence.{placed_at}
use Rattle.directory_tree.proofs.Drops.{without_old}

-- the test of a place, as a store makes it
abbrev pub is_key : ℕ → List ℕ → ℕ → List ℕ → Bool
is_key of c d q = (of == d) && bytes_eq c q

pub key_apart : (of : ℕ) (c : List ℕ) (d : ℕ) (q : List ℕ) → is_key of c d q ≡ false → Apart of c d q
key_apart of c d q h = λ a b. true≢false (sym ((λ i. eq-eqb of d (sym a) i && (bytes_eq-Decides c q).1 (sym b) i)) ∙ h)

pub key_same : (of : ℕ) (c : List ℕ) (d : ℕ) (q : List ℕ) → is_key of c d q ≡ true → (of ≡ d) × (c ≡ q)
key_same of c d q h = let k = and_parts (of == d) (bytes_eq c q) h in (eqb-true of d k.0, (bytes_eq-Decides c q).0 k.1)

pub own_entry_some : (t : Tree) (d : ℕ) (e : Entry) → WellFormed t → IsPlace t.entries d e → own_entry t.entries d ≡ Some e
own_entry_some t d e well p = ap (own_entry t.entries) (sym p.node) ∙ placed_at t well e.of e.component e p.found p.directory

pub own_entry_none : (t : Tree) (d : ℕ) → WellFormed t → ((e : Entry) → IsPlace t.entries d e → ⊥) → own_entry t.entries d ≡ None
own_entry_none t d well none = elim (own_entry t.entries d) as (λ (o : Option Entry). own_entry t.entries d ≡ o → o ≡ None) [
  | None ↦ λ is. refl
  | Some e ↦ λ is. absurd (none e (own_entry_found t.entries d e well.distinct is))
] refl

pub own_entry_same : (t u : Tree) (d : ℕ) → WellFormed t → WellFormed u → ((e : Entry) → IsPlace t.entries d e → IsPlace u.entries d e) →
    ((e : Entry) → IsPlace u.entries d e → IsPlace t.entries d e) → own_entry u.entries d ≡ own_entry t.entries d
own_entry_same t u d well_t well_u there back = elim (own_entry u.entries d) as (λ (o : Option Entry). own_entry u.entries d ≡ o →
    o ≡ own_entry t.entries d) [
      | None ↦ λ is. sym (own_entry_none t d well_t (λ e p. none-some e (sym is ∙ own_entry_some u d e well_u (there e p))))
      | Some e ↦ λ is. sym (own_entry_some t d e well_t (back e (own_entry_found u.entries d e well_u.distinct is)))
    ] refl

-- the root has no place
pub root_nowhere : (t : Tree) → WellFormed t → own_entry t.entries root ≡ None
root_nowhere t well = own_entry_none t root well (λ e p. let low = (well.low e.of e.component e p.found).0 in let same = p.node in
    absurd (omega arith))

-- the node is a directory of this number
abbrev pub is_node : Entry → ℕ → Bool
is_node e d = (e.node == d) && is_directory e.kind

pub node_same : (e : Entry) (d : ℕ) → is_node e d ≡ true → (e.node ≡ d) × (is_directory e.kind ≡ true)
node_same e d h = let k = and_parts (e.node == d) (is_directory e.kind) h in (eqb-true e.node d k.0, k.1)

pub node_other : (es : List Entry) (e z : Entry) (d : ℕ) → is_node e d ≡ false → IsPlace es d z → z.node ≡ e.node → z.kind ≡ e.kind → ⊥
node_other es e z d h p node kind =
    true≢false (sym (λ i. eq-eqb e.node d (sym node ∙ p.node) i && (sym (ap is_directory kind) ∙ p.directory) i) ∙ h)

-- a new entry
module _ (t : Tree) (x : Entry) (next : ℕ) (free : find t.entries x.of x.component ≡ None) where
  pub find_entered : (d : ℕ) (q : List ℕ) → find (t.entries ++ x ∷ []) d q
      ≡ (if is_key x.of x.component d q then Some x else find t.entries d q)
  find_entered d q = elim (find t.entries d q) as (λ (o : Option Entry). find t.entries d q ≡ o → find (t.entries ++ x ∷ []) d q
      ≡ (if is_key x.of x.component d q then Some x else o)) [
        | None ↦ λ is. find-append_new t.entries x d q is
        | Some e ↦ λ is. find-append_old t.entries x d q e is ∙ elim (is_key x.of x.component d q) as
            (λ (b : Bool). is_key x.of x.component d q ≡ b → Some e ≡ (if b then Some x else Some e)) [
              | true ↦ λ h. let k = key_same x.of x.component d q h in
                  absurd (none-some e (sym free ∙ (λ i. find t.entries (k.0 i) (k.1 i)) ∙ is))
              | false ↦ λ h. refl
            ] refl
      ] refl

  entered_old : (e : Entry) → find (t.entries ++ x ∷ []) e.of e.component ≡ Some e → (find t.entries e.of e.component ≡ Some e) ⊎ (x ≡ e)
  entered_old e h = elim (is_key x.of x.component e.of e.component) as
      (λ (b : Bool). (if b then Some x else find t.entries e.of e.component) ≡ Some e → (find t.entries e.of e.component ≡ Some e)
      ⊎ (x ≡ e)) [
        | true ↦ λ k. inr (same_Some x e k)
        | false ↦ λ k. inl k
      ] (sym (find_entered e.of e.component) ∙ h)

  pub own_entry_entered : WellFormed t → WellFormed (with_entry t x next) → (d : ℕ) → own_entry (t.entries ++ x ∷ []) d
      ≡ (if is_node x d then Some x else own_entry t.entries d)
  own_entry_entered well_t well_u d = elim (is_node x d) as (λ (b : Bool). is_node x d ≡ b → own_entry (t.entries ++ x ∷ []) d
      ≡ (if b then Some x else own_entry t.entries d)) [
        | true ↦ λ h. let k = node_same x d h in own_entry_some (with_entry t x next) d x well_u record {
          found = find_entered x.of x.component ∙ ap (λ (b : Bool). if b then Some x else find t.entries x.of x.component)
              (is_at-same x.of x.component x refl refl);
          node = k.0;
          directory = k.1;
        }
        | false ↦ λ h. own_entry_same t (with_entry t x next) d well_t well_u
            (λ e p. record { found = find-append_old t.entries x e.of e.component e p.found; node = p.node; directory = p.directory })
            (λ e p. elim (entered_old e p.found) [
              | inl old ↦ record { found = old; node = p.node; directory = p.directory }
              | inr new ↦ absurd (node_other (t.entries ++ x ∷ []) x e d h p (ap (λ (z : Entry). z.node) (sym new))
                  (ap (λ (z : Entry). z.kind) (sym new)))
            ])
      ] refl

-- an entry is removed
module _ (t : Tree) (of : ℕ) (c : List ℕ) (e : Entry) (is : find t.entries of c ≡ Some e) where
  pub find_dropped : (d : ℕ) (q : List ℕ) → find (without of c t.entries) d q ≡ (if is_key of c d q then None else find t.entries d q)
  find_dropped d q = elim (is_key of c d q) as (λ (b : Bool). is_key of c d q ≡ b → find (without of c t.entries) d q
      ≡ (if b then None else find t.entries d q)) [
        | true ↦ λ h. let k = key_same of c d q h in sym (λ i. find (without of c t.entries) (k.0 i) (k.1 i))
            ∙ find-without_same t.entries of c
        | false ↦ λ h. find-without_other t.entries of c d q (key_apart of c d q h)
      ] refl

  -- what is at this key is e
  at_e : WellFormed t → (z : Entry) → is_key of c z.of z.component ≡ true → find t.entries z.of z.component ≡ Some z → z ≡ e
  at_e well z h found = let k = key_same of c z.of z.component h in
      same_Some z e (sym found ∙ sym (λ i. find t.entries (k.0 i) (k.1 i)) ∙ is)

  pub own_entry_dropped : WellFormed t → WellFormed (dropped t of c) → (d : ℕ) → own_entry (without of c t.entries) d
      ≡ (if is_node e d then None else own_entry t.entries d)
  own_entry_dropped well_t well_u d = elim (is_node e d) as (λ (b : Bool). is_node e d ≡ b → own_entry (without of c t.entries) d
      ≡ (if b then None else own_entry t.entries d)) [
        | true ↦ λ h. own_entry_none (dropped t of c) d well_u (λ z p.
            let k = node_same e d h in
            let old = without_old t.entries of c z.of z.component z p.found in
            let same : z ≡ e = well_t.one_entry z.of z.component of c z e old is (p.node ∙ sym k.0) p.directory in
            let at = found_at t.entries of c e is in
            none-some z (sym (find-without_same t.entries of c)
            ∙ sym (λ i. find (without of c t.entries) ((ap (λ (w : Entry). w.of) same ∙ at.0) i)
            ((ap (λ (w : Entry). w.component) same ∙ at.1) i)) ∙ p.found))
        | false ↦ λ h. own_entry_same t (dropped t of c) d well_t well_u
            (λ z p. record {
              found = find_dropped z.of z.component ∙ elim (is_key of c z.of z.component) as
                  (λ (b : Bool). is_key of c z.of z.component ≡ b →
                  (if b then None else find t.entries z.of z.component) ≡ Some z) [
                    | true ↦ λ k. let same = at_e well_t z k p.found in
                        absurd (node_other t.entries e z d h p (ap (λ (w : Entry). w.node) same) (ap (λ (w : Entry). w.kind) same))
                    | false ↦ λ k. p.found
                  ] refl;
              node = p.node;
              directory = p.directory;
            })
            (λ z p. record { found = without_old t.entries of c z.of z.component z p.found; node = p.node; directory = p.directory })
      ] refl

-- the node of an entry, if there is one, is a directory of this number
abbrev pub is_gone : Option Entry → ℕ → Bool
is_gone None d = false
is_gone (Some e) d = is_node e d

pub gone_found : (t : Tree) (into : ℕ) (name : List ℕ) (d : ℕ) → is_gone (find t.entries into name) d ≡ true →
    (e : Entry) × (find t.entries into name ≡ Some e) × (is_node e d ≡ true)
gone_found t into name d h = elim (find t.entries into name) as (λ (o : Option Entry). find t.entries into name ≡ o → is_gone o d ≡ true →
    (e : Entry) × (find t.entries into name ≡ Some e) × (is_node e d ≡ true)) [
      | None ↦ λ there g. absurd (true≢false (sym g))
      | Some e ↦ λ there g. (e, there, g)
    ] refl h

-- an entry moves
module _ (t : Tree) (of : ℕ) (c : List ℕ) (into : ℕ) (name : List ℕ) (old : Entry) (is : find t.entries of c ≡ Some old)
    (other : Apart of c into name) where
  abbrev rest : List Entry
  rest = without into name t.entries

  abbrev after : List Entry
  after = placed of c into name (without into name t.entries)

  abbrev new : Entry
  new = entry into name old.node old.kind

  still : find rest of c ≡ Some old
  still = find-without_other t.entries into name of c (λ a b. other (sym a) (sym b)) ∙ is

  pub find_new : find after into name ≡ Some new
  find_new = find-placed_new of c into name other rest (find-without_same t.entries into name) ∙ ap (put_at into name) still

  pub find_moved : (d : ℕ) (q : List ℕ) → find after d q
      ≡ (if is_key into name d q then Some new else (if is_key of c d q then None else find t.entries d q))
  find_moved d q = elim (is_key into name d q) as (λ (b : Bool). is_key into name d q ≡ b → find after d q
      ≡ (if b then Some new else (if is_key of c d q then None else find t.entries d q))) [
        | true ↦ λ h. let k = key_same into name d q h in sym (λ i. find after (k.0 i) (k.1 i)) ∙ find_new
        | false ↦ λ h. elim (is_key of c d q) as (λ (b : Bool). is_key of c d q ≡ b → find after d q
            ≡ (if b then None else find t.entries d q)) [
              | true ↦ λ g. let k = key_same of c d q g in sym (λ i. find after (k.0 i) (k.1 i))
                  ∙ find-placed_old of c into name other rest
              | false ↦ λ g. find-placed_else of c into name other rest d q (key_apart of c d q g) (key_apart into name d q h)
                  ∙ find-without_other t.entries into name d q (key_apart into name d q h)
            ] refl
      ] refl

  -- what is found after the move is the entry that moved, or was there before, at neither place
  pub after_moved : (d : ℕ) (q : List ℕ) (z : Entry) → find after d q ≡ Some z →
      (z ≡ new) ⊎ ((find t.entries d q ≡ Some z) × (is_key of c d q ≡ false) × (is_key into name d q ≡ false))
  after_moved d q z h = elim (is_key into name d q) as (λ (b : Bool). is_key into name d q ≡ b →
      (if b then Some new else (if is_key of c d q then None else find t.entries d q)) ≡ Some z →
      (z ≡ new) ⊎ ((find t.entries d q ≡ Some z) × (is_key of c d q ≡ false) × (b ≡ false))) [
        | true ↦ λ k g. inl (sym (same_Some new z g))
        | false ↦ λ k g. elim (is_key of c d q) as (λ (b : Bool). (if b then None else find t.entries d q) ≡ Some z →
            (z ≡ new) ⊎ ((find t.entries d q ≡ Some z) × (b ≡ false) × (false ≡ false))) [
              | true ↦ λ r. absurd (none-some z r)
              | false ↦ λ r. inr (r, refl, refl)
            ] g
      ] refl (sym (find_moved d q) ∙ h)

  -- what was at neither place is found after the move
  stays : (z : Entry) → find t.entries z.of z.component ≡ Some z → is_key of c z.of z.component ≡ false → is_key into name z.of z.component
      ≡ false → find after z.of z.component ≡ Some z
  stays z found one two = find_moved z.of z.component
      ∙ (λ i. if two i then Some new else (if one i then None else find t.entries z.of z.component)) ∙ found

  kept_node : (d : ℕ) (z : Entry) → WellFormed t → is_node old d ≡ false → is_gone (find t.entries into name) d ≡ false →
      IsPlace t.entries d z → IsPlace after d z
  kept_node d z well h g p = record {
    found = stays z p.found
        (elim (is_key of c z.of z.component) as (λ (b : Bool). is_key of c z.of z.component ≡ b → b ≡ false) [
          | true ↦ λ k. let same = at_e t of c old is well z k p.found in
              absurd (node_other t.entries old z d h p (ap (λ (w : Entry). w.node) same) (ap (λ (w : Entry). w.kind) same))
          | false ↦ λ k. refl
        ] refl)
        (elim (is_key into name z.of z.component) as (λ (b : Bool). is_key into name z.of z.component ≡ b → b ≡ false) [
          | true ↦ λ k.
              let j = key_same into name z.of z.component k in
              let there : find t.entries into name ≡ Some z = (λ i. find t.entries (j.0 i) (j.1 i)) ∙ p.found in
              absurd (true≢false (sym (λ i. eq-eqb z.node d p.node i && p.directory i)
              ∙ sym (ap (λ (o : Option Entry). is_gone o d) there) ∙ g))
          | false ↦ λ k. refl
        ] refl);
    node = p.node;
    directory = p.directory;
  }

  pub own_entry_moved : WellFormed t → WellFormed (moved t of c into name) → (d : ℕ) → own_entry after d
      ≡ (if is_node old d then Some new else (if is_gone (find t.entries into name) d then None else own_entry t.entries d))
  own_entry_moved well_t well_u d = elim (is_node old d) as (λ (b : Bool). is_node old d ≡ b → own_entry after d
      ≡ (if b then Some new else (if is_gone (find t.entries into name) d then None else own_entry t.entries d))) [
        | true ↦ λ h. let k = node_same old d h in own_entry_some (moved t of c into name) d new well_u record {
          found = find_new;
          node =
              k.0;
          directory = k.1;
        }
        | false ↦ λ h. elim (is_gone (find t.entries into name) d) as (λ (b : Bool). is_gone (find t.entries into name) d ≡ b →
            own_entry after d ≡ (if b then None else own_entry t.entries d)) [
              | true ↦ λ g. let (e, there, at) = gone_found t into name d g in let k = node_same e d at in
                  own_entry_none (moved t of c into name) d well_u (λ z p. elim (after_moved z.of z.component z p.found) [
                    | inl same ↦ node_other after old z d h p (ap (λ (w : Entry). w.node) same) (ap (λ (w : Entry). w.kind) same)
                    | inr (found, one, two) ↦
                        let same : z ≡ e = well_t.one_entry z.of z.component into name z e found there (p.node ∙ sym k.0) p.directory in
                        let spot = found_at t.entries into name e there in
                        key_apart into name z.of z.component two (ap (λ (w : Entry). w.of) same ∙ spot.0)
                        (ap (λ (w : Entry). w.component) same ∙ spot.1)
                  ])
              | false ↦ λ g. own_entry_same t (moved t of c into name) d well_t well_u (λ z p. kept_node d z well_t h g p)
                  (λ z p. elim (after_moved z.of z.component z p.found) [
                    | inl same ↦ absurd (node_other after old z d h p (ap (λ (w : Entry). w.node) same) (ap (λ (w : Entry). w.kind) same))
                    | inr (found, one, two) ↦ record { found = found; node = p.node; directory = p.directory }
                  ])
            ] refl
      ] refl

-- ---- how many entries
pub length_dropped : (es : List Entry) (of : ℕ) (c : List ℕ) (e : Entry) → Distinct es → find es of c ≡ Some e →
    length (without of c es) + 1 ≡ length es
length_dropped [] of c e h is = absurd (none-some e is)
length_dropped (y ∷ es) of c e h is = elim (is_at of c y) as (λ (b : Bool). is_at of c y ≡ b → (if b then Some y else find es of c)
    ≡ Some e → length (if b then without of c es else y ∷ without of c es) + 1 ≡ suc (length es)) [
      | true ↦ λ q r. let k = at_once of c y.of y.component q in
          let same : length (without of c es) ≡ length es = ap length (without-none es of c (sym (λ i. find es (k.0 i) (k.1 i)) ∙ h.0)) in
          omega arith
      | false ↦ λ q r. let less = length_dropped es of c e h.1 r in omega arith
    ] refl is

pub length_placed : (es : List Entry) (of : ℕ) (c : List ℕ) (into : ℕ) (name : List ℕ) → length (placed of c into name es) ≡ length es
length_placed [] of c into name = refl
length_placed (e ∷ es) of c into name = ap suc (length_placed es of c into name)

-- ---- no entry in a directory
pub none_empty : (es : List Entry) (d : ℕ) → ((q : List ℕ) → find es d q ≡ None) → is_empty es d ≡ true
none_empty [] d h = refl
none_empty (e ∷ es) d h = elim (e.of == d) as (λ (b : Bool). ((q : List ℕ) → (if b && bytes_eq e.component q then Some e else find es d q)
    ≡ None) → (if b then false else is_empty es d) ≡ true) [
      | true ↦ λ g. absurd (none-some e (sym (g e.component) ∙ ap (λ (b : Bool). if b then Some e else find es d e.component)
          ((bytes_eq-Decides e.component e.component).1 refl)))
      | false ↦ λ g. none_empty es d g
    ] h
