-- The names of directories in a tree in which an entry moved.
use Rattle.std.proofs.Common.{◌≡◌, ℕ, zero, suc, ◌≤◌, ◌==◌, ◌≢◌, ◌&&◌, Bool, true, false, List, [], ◌∷◌, ◌++◌, length, Some, None, Option}
use Rattle.std.proofs.Common.{sym, refl, ap, ◌∙◌, subst, arith, append_assoc, eqb-true, eq-eqb, ne_eqb, true≢false}
use Rattle.std.specs.Prelude.{if◌then◌else◌}
use Rattle.std.proofs.lemmas.List.{append-nil}
use Rattle.directory_tree.specs.Components.{slash}
use Rattle.directory_tree.specs.Tree.{Tree, Entry, WellFormed, root, find, own_entry, is_directory, is_below}
use Rattle.directory_tree.specs.Name.{name_up, directory_name}
use Rattle.directory_tree.specs.Place.{place_name}
use Rattle.directory_tree.specs.Apply.{entry, moved}
use Rattle.std.proofs.lemmas.Option.{none-some, same_Some}
use Rattle.directory_tree.specs.laws.Found.{found_at, empty_none, Apart}
use Rattle.directory_tree.proofs.Walks.{own_entry_found}
use Rattle.directory_tree.proofs.Depth.{Deep, shallow}
use Rattle.directory_tree.proofs.Drops.{HasEntry}
use Rattle.directory_tree.proofs.Moves.{Avoids}
use Rattle.directory_tree.proofs.Presence.{placed_at}
use Rattle.directory_tree.proofs.Placement.{is_gone, node_same, gone_found, own_entry_moved, find_new}
use Rattle.directory_tree.proofs.Depth.{up_deep}
use Rattle.directory_tree.proofs.Accepted.{Loose}

-- one step up adds the component of the directory's entry
name_one : (es : List Entry) (n x : ℕ) (e : Entry) → x ≢ root → own_entry es x ≡ Some e → name_up es (suc n) x ≡ name_up es n e.of
    ++ slash ∷ e.component
name_one es n x e apart at =
    ap (λ (b : Bool). if b then [] else elim (own_entry es x) as (λ _. List ℕ) [
      | None ↦ []
      | Some z ↦ name_up es n z.of
          ++ slash ∷ z.component
    ]) (ne_eqb x root apart)
    ∙ ap (λ (o : Option Entry). elim o as (λ _. List ℕ) [ None ↦ [] | Some z ↦ name_up es n z.of ++ slash ∷ z.component ]) at

-- any two counts of steps that suffice for the root give one name
name_enough : (es : List Entry) (m n k x : ℕ) → Deep es m x → m ≤ n → m ≤ k → name_up es n x ≡ name_up es k x
name_enough es m n k x h a b = up_deep es m n x h a ∙ sym (up_deep es m k x h b)

-- a directory's name is that of its entry's place
entry_name : (t : Tree) (m x : ℕ) (e : Entry) → x ≢ root → Deep t.entries m x → own_entry t.entries x ≡ Some e →
    (n : ℕ) × Deep t.entries n e.of × (directory_name t x ≡ place_name t e.of e.component)
entry_name t zero x e apart h at = absurd (apart h)
entry_name t (suc m) x e apart (z, is, other, up) at =
    let same : z ≡ e = same_Some z e (sym is ∙ at) in
    let up_e : Deep t.entries m e.of = subst (λ (w : Entry). Deep t.entries m w.of) same up in
    let low = shallow t.entries (suc m) x (z, is, other, up) in (
      m,
      up_e,
      name_enough t.entries (suc m) (length t.entries) (suc m) x (z, is, other, up) low (omega arith)
          ∙ name_one t.entries m x e apart at
          ∙ ap (λ (w : List ℕ). w ++ slash ∷ e.component) (name_enough t.entries m m (length t.entries) e.of up_e
          (omega arith) (omega arith)),
    )

-- a directory that has an entry of its own isn't the root
below_root : (t : Tree) (x : ℕ) (e : Entry) → WellFormed t → own_entry t.entries x ≡ Some e → x ≢ root
below_root t x e well at p = let k = own_entry_found t.entries x e well.distinct at in let low = (well.low e.of e.component e k.found).0 in
    let node = k.node in absurd (omega arith)

-- a climb that doesn't meet a node is a climb
avoids_deep : (es : List Entry) (a m x : ℕ) → Avoids es a m x → Deep es m x
avoids_deep es a zero x h = h
avoids_deep es a (suc m) x (e, at, apart, far, up) = (e, at, apart, avoids_deep es a m e.of up)

module _ (t : Tree) (well : WellFormed t) (d : ℕ) (c : List ℕ) (into : ℕ) (name : List ℕ) (old : Entry)
    (is : find t.entries d c ≡ Some old) (other : Apart d c into name) (loose : Loose t into name)
    (later : WellFormed (moved t d c into name)) where
  abbrev u : Tree
  u = moved t d c into name

  abbrev new : Entry
  new = entry into name old.node old.kind

  -- a directory that has an entry wasn't replaced
  pub kept_there : (x : ℕ) → HasEntry t.entries x → is_gone (find t.entries into name) x ≡ false
  kept_there x (q, y, there) = elim (is_gone (find t.entries into name) x) as (λ (b : Bool). is_gone (find t.entries into name) x ≡ b →
      b ≡ false) [
        | true ↦ λ g. let (e, at, node) = gone_found t into name x g in let k = node_same e x node in
            absurd (none-some y (sym (empty_none t.entries e.node q (loose e at k.1)) ∙ (λ i. find t.entries (k.0 i) q) ∙ there))
        | false ↦ λ g. refl
      ] refl

  -- the directory above another wasn't replaced
  above_kept : (x : ℕ) (e : Entry) → own_entry t.entries x ≡ Some e → is_gone (find t.entries into name) e.of ≡ false
  above_kept x e at = kept_there e.of (e.component, e, (own_entry_found t.entries x e well.distinct at).found)

  -- the place of another directory doesn't change
  same_place : (x : ℕ) → x ≢ old.node → is_gone (find t.entries into name) x ≡ false → own_entry u.entries x ≡ own_entry t.entries x
  same_place x far kept = own_entry_moved t d c into name old is other well later x
      ∙ ap (λ (b : Bool). if b && is_directory old.kind then Some new else
      (if is_gone (find t.entries into name) x then None else own_entry t.entries x)) (ne_eqb old.node x (λ p. far (sym p)))
      ∙ ap (λ (b : Bool). if b then None else own_entry t.entries x) kept

  -- a climb that doesn't meet what moves is one in the new tree too
  far_deep : (m x : ℕ) → is_gone (find t.entries into name) x ≡ false → Avoids t.entries old.node m x → Deep u.entries m x
  far_deep zero x kept h = h
  far_deep (suc m) x kept (e, at, apart, far, up) = (e, same_place x far kept ∙ at, apart, far_deep m e.of (above_kept x e at) up)

  -- such a climb gives the same name
  far_up : (m x : ℕ) → is_gone (find t.entries into name) x ≡ false → Avoids t.entries old.node m x → name_up u.entries m x
      ≡ name_up t.entries m x
  far_up zero x kept h = refl
  far_up (suc m) x kept (e, at, apart, far, up) =
      name_one u.entries m x e apart (same_place x far kept ∙ at) ∙ ap (λ (z : List ℕ). z ++ slash ∷ e.component)
      (far_up m e.of (above_kept x e at) up) ∙ sym (name_one t.entries m x e apart at)

  -- a directory that isn't in what moves keeps its name
  pub far_name : (m x : ℕ) → is_gone (find t.entries into name) x ≡ false → Avoids t.entries old.node m x →
      directory_name u x ≡ directory_name t x
  far_name m x kept h =
      let up = far_deep m x kept h in
      let back = avoids_deep t.entries old.node m x h in
      name_enough u.entries m (length u.entries) m x up (shallow u.entries m x up) (omega arith)
      ∙ far_up m x kept h
      ∙ name_enough t.entries m m (length t.entries) x back (omega arith) (shallow t.entries m x back)

  module _ (directory : is_directory old.kind ≡ true) (unmoved : directory_name u into ≡ directory_name t into) where
    -- the moved directory's own name
    top_name : (m n x : ℕ) → x ≡ old.node → Deep t.entries m x → Deep u.entries n x → (rest : List ℕ)
        × (directory_name t x ≡ place_name t d c ++ rest) × (directory_name u x ≡ place_name t into name ++ rest)
    top_name m n x here up up_u =
        let at : own_entry t.entries x ≡ Some old = ap (own_entry t.entries) here ∙ placed_at t well d c old is directory in
        let at_u : own_entry u.entries x ≡ Some new = ap (own_entry u.entries) here ∙ placed_at u later into name new
        (find_new t d c into name old is other) directory in
        let apart = below_root t x old well at in
        let spot = found_at t.entries d c old is in
        let (i, old_up, old_name) = entry_name t m x old apart up at in
        let (j, new_up, new_name) = entry_name u n x new apart up_u at_u in (
          [],
          old_name ∙ (λ i. place_name t (spot.0 i) (spot.1 i)) ∙ sym (append-nil (place_name t d c)),
          new_name ∙ ap (λ (z : List ℕ). z ++ slash ∷ name) unmoved ∙ sym (append-nil (place_name t into name)),
        )

    -- the name of a directory in what moves begins with the new place's
    pub near_name : (k m n x : ℕ) → is_gone (find t.entries into name) x ≡ false → is_below t.entries k old.node x ≡ true →
        Deep t.entries m x → Deep u.entries n x
        → (rest : List ℕ) × (directory_name t x ≡ place_name t d c ++ rest) × (directory_name u x ≡ place_name t into name ++ rest)
    near_name zero m n x kept below up up_u = top_name m n x (eqb-true x old.node below) up up_u
    near_name (suc k) m n x kept below up up_u =
        elim (x == old.node) as (λ (b : Bool). (x == old.node) ≡ b →
        (if b then true else elim (own_entry t.entries x) as (λ _. Bool)
        [ None ↦ false | Some e ↦ is_below t.entries k old.node e.of ]) ≡ true
        → (rest : List ℕ) × (directory_name t x ≡ place_name t d c ++ rest) × (directory_name u x ≡ place_name t into name ++ rest)) [
          | true ↦ λ q r. top_name m n x (eqb-true x old.node q) up up_u
          | false ↦ λ q r. elim (own_entry t.entries x) as (λ (o : Option Entry). own_entry t.entries x ≡ o →
              (elim o as (λ _. Bool) [ None ↦ false | Some e ↦ is_below t.entries k old.node e.of ]) ≡ true
              → (rest : List ℕ) × (directory_name t x ≡ place_name t d c ++ rest)
              × (directory_name u x ≡ place_name t into name ++ rest)) [
                | None ↦ λ at s. absurd (true≢false (sym s))
                | Some e ↦ λ at s.
                    let at_u = same_place x (λ p. true≢false (sym (eq-eqb x old.node p) ∙ q)) kept ∙ at in
                    let apart = below_root t x e well at in
                    let (i, up_e, name_e) = entry_name t m x e apart up at in
                    let (j, up_ue, name_ue) = entry_name u n x e apart up_u at_u in
                    let (rest, front, new_front) = near_name k i j e.of (above_kept x e at) s up_e up_ue in (
                      rest ++ slash ∷ e.component,
                      name_e ∙ ap (λ (z : List ℕ). z ++ slash ∷ e.component) front ∙ append_assoc (place_name t d c) rest
                          (slash ∷ e.component),
                      name_ue ∙ ap (λ (z : List ℕ). z ++ slash ∷ e.component) new_front ∙ append_assoc (place_name t into name) rest
                          (slash ∷ e.component),
                    )
              ] refl r
        ] refl below
