-- Where an entry of a tree after a change comes from.
use Rattle.std.proofs.Common.{◌≡◌, ℕ, ◌+◌, ◌==◌, Bool, true, false, List, Some, None, Option, sym}
use Rattle.std.proofs.Common.{refl, ap, ◌∙◌, subst, eq-eqb, true≢false}
use Rattle.std.specs.Prelude.{if◌then◌else◌, Result, Ok, Err}
use mathlib.Core.Logic.{◌⊎◌, inl, inr}
use Rattle.names.specs.declared.errors.Errno.{Errno}
use Rattle.names.specs.declared.errors.Errno.TheVariants.{EPERM, ENOENT, EEXIST, ENOSPC, EISDIR, ENOTDIR, ENOTEMPTY, EINVAL}
use Rattle.directory_tree.specs.declared.node.NodeKind.{NodeKind}
use Rattle.directory_tree.specs.declared.node.NodeKind.TheVariants.{Directory, File, Link}
use Rattle.directory_tree.specs.declared.change.Change.{Change}
use Rattle.directory_tree.specs.declared.change.Change.TheVariants as change
use Rattle.directory_tree.specs.Tree.{Tree, Entry, find, is_directory, is_empty}
use Rattle.directory_tree.specs.Apply.{and_then, at_one, entry, with_entry, make, make_at, link, link_to, link_from, is_file, dropped}
use Rattle.directory_tree.specs.Apply.{unlink, unlink_at, rmdir, rmdir_at, moved, goes_below, onto_kind, rename, rename_from, rename_onto}
use Rattle.directory_tree.specs.Apply.{directory_target, other_target, text_of, apply}
use Rattle.directory_tree.proofs.Accepted.{gives_way}
use Rattle.std.proofs.lemmas.Option.{none-some, same_Some}
use Rattle.names.specs.laws.Results.{err-ok, same_Ok}
use Rattle.directory_tree.specs.laws.Found.{Apart}
use Rattle.directory_tree.proofs.Drops.{without_old}
use Rattle.directory_tree.proofs.Actions.{acts_one, acts_two}
use Rattle.directory_tree.proofs.Placement.{is_key, find_entered, after_moved}

-- The tree has an entry of this node and kind.
abbrev pub HasNode : Tree → ℕ → NodeKind → Type 0
HasNode t node kind = (d : ℕ) × (c : List ℕ) × (e : Entry) × (find t.entries d c ≡ Some e) × (e.node ≡ node) × (e.kind ≡ kind)

-- The node was there before, or it is the next one.
abbrev pub Origin : Tree → Tree → Entry → Type 0
Origin t u z = HasNode t z.node z.kind ⊎ ((z.node ≡ t.next) × (u.next ≡ t.next + 1))

-- Each entry of the second tree has such an origin.
abbrev pub Comes : Tree → Tree → Type 0
Comes t u = (d : ℕ) (c : List ℕ) (z : Entry) → find u.entries d c ≡ Some z → Origin t u z

-- If nothing was done, each entry was there.
comes_same : (t u : Tree) → t ≡ u → Comes t u
comes_same t u same = subst (Comes t) same (λ d c z h. inl (d, c, z, h, refl, refl))

-- An entry is new, or it was there.
comes_entered : (t : Tree) (x : Entry) (next : ℕ) → find t.entries x.of x.component ≡ None → Origin t (with_entry t x next) x →
    Comes t (with_entry t x next)
comes_entered t x next free from d c z h =
    elim (is_key x.of x.component d c) as (λ (b : Bool). (if b then Some x else find t.entries d c) ≡ Some z →
    Origin t (with_entry t x next) z) [
      | true ↦ λ q. subst (Origin t (with_entry t x next)) (same_Some x z q) from
      | false ↦ λ q. inl (d, c, z, q, refl, refl)
    ] (sym (find_entered t x next free d c) ∙ h)

-- What is left was there.
comes_dropped : (t : Tree) (of : ℕ) (c : List ℕ) → Comes t (dropped t of c)
comes_dropped t of c d q z h = inl (d, q, z, without_old t.entries of c d q z h, refl, refl)

-- The entry at the new place is the one that moved, and each other was there.
comes_moved : (t : Tree) (of : ℕ) (c : List ℕ) (into : ℕ) (name : List ℕ) (old : Entry) → find t.entries of c ≡ Some old →
    Apart of c into name → Comes t (moved t of c into name)
comes_moved t of c into name old is other d q z h = elim (after_moved t of c into name old is other d q z h) [
  | inl new ↦ inl (of, c, old, is, ap (λ (w : Entry). w.node) (sym new), ap (λ (w : Entry). w.kind) (sym new))
  | inr (there, one, two) ↦ inl (d, q, z, there, refl, refl)
]

-- The node of a made entry is the next.
make_comes : (t u : Tree) (room : Bool) (kind : NodeKind) (d : ℕ) (c : List ℕ) → make t room kind d c ≡ Ok u → Comes t u
make_comes t u room kind d c h =
    elim (find t.entries d c) as (λ (o : Option Entry). find t.entries d c ≡ o → make_at t room kind d c o ≡ Ok u → Comes t u) [
      | Some e ↦ λ is q. absurd (err-ok EEXIST u q)
      | None ↦ λ is q. elim room as (λ (b : Bool). make_at t b kind d c None ≡ Ok u → Comes t u) [
        | true ↦ λ r. subst (Comes t) (same_Ok _ u r) (comes_entered t (entry d c t.next kind) (t.next + 1) is (inr (refl, refl)))
        | false ↦ λ r. absurd (err-ok ENOSPC u r)
      ] q
    ] refl h

-- A linked entry has the node of the old one.
link_comes : (t u : Tree) (room : Bool) (d : ℕ) (c : List ℕ) (into : ℕ) (name : List ℕ) → link t room d c into name ≡ Ok u → Comes t u
link_comes t u room d c into name h =
    elim (find t.entries d c) as (λ (o : Option Entry). find t.entries d c ≡ o → link_from t room into name o ≡ Ok u → Comes t u) [
      | None ↦ λ is q. absurd (err-ok ENOENT u q)
      | Some old ↦ λ is q. elim (is_file old.kind) as
          (λ (b : Bool). (if b then link_to t room old into name (find t.entries into name) else Err EPERM) ≡ Ok u → Comes t u) [
            | false ↦ λ r. absurd (err-ok EPERM u r)
            | true ↦ λ r. elim (find t.entries into name) as (λ (o : Option Entry). find t.entries into name ≡ o →
                link_to t room old into name o ≡ Ok u → Comes t u) [
                  | Some e ↦ λ there s. absurd (err-ok EEXIST u s)
                  | None ↦ λ free s. elim room as (λ (b : Bool). link_to t b old into name None ≡ Ok u → Comes t u) [
                    | true ↦ λ p. subst (Comes t) (same_Ok _ u p) (comes_entered t (entry into name old.node old.kind) t.next free
                        (inl (d, c, old, is, refl, refl)))
                    | false ↦ λ p. absurd (err-ok ENOSPC u p)
                  ] s
                ] refl r
          ] q
    ] refl h

-- No node is added when an entry is removed.
unlink_comes : (t u : Tree) (d : ℕ) (c : List ℕ) → unlink t d c ≡ Ok u → Comes t u
unlink_comes t u d c h =
    elim (find t.entries d c) as (λ (o : Option Entry). unlink_at t d c o ≡ Ok u → Comes t u) [
      | None ↦ λ q. absurd (err-ok ENOENT u q)
      | Some e ↦ λ q. elim (is_directory e.kind) as (λ (b : Bool). (if b then Err EISDIR else Ok (dropped t d c)) ≡ Ok u → Comes t u) [
        | true ↦ λ r. absurd (err-ok EISDIR u r)
        | false ↦ λ r. subst (Comes t) (same_Ok _ u r) (comes_dropped t d c)
      ] q
    ] h

-- No node is added when a directory is removed.
rmdir_comes : (t u : Tree) (d : ℕ) (c : List ℕ) → rmdir t d c ≡ Ok u → Comes t u
rmdir_comes t u d c h =
    elim (find t.entries d c) as (λ (o : Option Entry). rmdir_at t d c o ≡ Ok u → Comes t u) [
      | None ↦ λ q. absurd (err-ok ENOENT u q)
      | Some e ↦ λ q. elim (is_directory e.kind) as
          (λ (b : Bool). (if b then (if is_empty t.entries e.node then Ok (dropped t d c) else Err ENOTEMPTY) else Err ENOTDIR) ≡ Ok u →
          Comes t u) [
            | true ↦ λ r. elim (is_empty t.entries e.node) as (λ (b : Bool). (if b then Ok (dropped t d c) else Err ENOTEMPTY) ≡ Ok u →
                Comes t u) [
                  | true ↦ λ s. subst (Comes t) (same_Ok _ u s) (comes_dropped t d c)
                  | false ↦ λ s. absurd (err-ok ENOTEMPTY u s)
                ] r
            | false ↦ λ r. absurd (err-ok ENOTDIR u r)
          ] q
    ] h

-- No node is added when an entry moves.
rename_comes : (t u : Tree) (d : ℕ) (c : List ℕ) (into : ℕ) (name : List ℕ) → rename t d c into name ≡ Ok u → Comes t u
rename_comes t u d c into name h =
    elim (find t.entries d c) as (λ (o : Option Entry). find t.entries d c ≡ o → rename_from t d c into name o ≡ Ok u → Comes t u) [
      | None ↦ λ is q. absurd (err-ok ENOENT u q)
      | Some old ↦ λ is q. elim (find t.entries into name) as (λ (o : Option Entry). find t.entries into name ≡ o →
          rename_onto t old into (Ok (moved t d c into name)) o ≡ Ok u → Comes t u) [
            | None ↦ λ free r. elim (goes_below t.entries old into) as
                (λ (b : Bool). (if b then Err EINVAL else Ok (moved t d c into name))
                ≡ Ok u → Comes t u) [
                  | true ↦ λ s. absurd (err-ok EINVAL u s)
                  | false ↦ λ s. subst (Comes t) (same_Ok _ u s)
                      (comes_moved t d c into name old is (λ a b. none-some old (sym free ∙ (λ i. find t.entries (a i) (b i)) ∙ is)))
                ] r
            | Some new ↦ λ there r. elim (new.node == old.node) as (λ (b : Bool). (new.node == old.node) ≡ b →
                (if b then Ok t else (if goes_below t.entries old into then Err EINVAL else onto_kind t.entries old new
                (Ok (moved t d c into name)))) ≡ Ok u → Comes t u) [
                  | true ↦ λ same s. comes_same t u (same_Ok t u s)
                  | false ↦ λ same s. elim (goes_below t.entries old into) as
                      (λ (b : Bool). (if b then Err EINVAL else onto_kind t.entries old new (Ok (moved t d c into name))) ≡ Ok u →
                      Comes t u) [
                        | true ↦ λ p. absurd (err-ok EINVAL u p)
                        | false ↦ λ p.
                            let other : Apart d c into name =
                            λ a b. true≢false
                            (sym (eq-eqb new.node old.node
                            (ap (λ (z : Entry). z.node) (same_Some new old (sym there ∙ (λ i. find t.entries (a i) (b i)) ∙ is))))
                            ∙ same) in
                            subst (Comes t) (gives_way (is_directory old.kind) (is_directory new.kind) (is_empty t.entries new.node)
                            (moved t d c into name) u p).0 (comes_moved t d c into name old is other)
                      ] s
                ] refl r
          ] refl q
    ] refl h

-- Each node of a tree after an accepted change was there before, with its kind, or is new.
pub apply_comes : (t u : Tree) (room : Bool) (c : Change) → apply t room c ≡ Ok u → Comes t u
apply_comes t u room (change.Mkdir path) h = let (d, c, q) = acts_one t u (directory_target path) (make t room Directory) h in
    make_comes t u room Directory d c q
apply_comes t u room (change.Create path) h = let (d, c, q) = acts_one t u (other_target path) (make t room File) h in
    make_comes t u room File d c q
apply_comes t u room (change.Symlink text path) h =
    elim (text_of text) as (λ (r : Result (List ℕ) Errno). and_then r (λ bytes. at_one t (other_target path) (make t room (Link bytes)))
    ≡ Ok u → Comes t u) [
      | Err e ↦ λ q. absurd (err-ok e u q)
      | Ok bytes ↦ λ q. let (d, c, r) = acts_one t u (other_target path) (make t room (Link bytes)) q in
          make_comes t u room (Link bytes) d c r
    ] h
apply_comes t u room (change.Link old new) h = let (d, c, into, name, q) = acts_two t u (other_target old) (other_target new) (link t room)
    h in link_comes t u room d c into name q
apply_comes t u room (change.Unlink path) h = let (d, c, q) = acts_one t u (other_target path) (unlink t) h in unlink_comes t u d c q
apply_comes t u room (change.Rmdir path) h = let (d, c, q) = acts_one t u (directory_target path) (rmdir t) h in rmdir_comes t u d c q
apply_comes t u room (change.Rename old new) h = let (d, c, into, name, q) = acts_two t u (other_target old) (other_target new)
    (rename t) h in rename_comes t u d c into name q
