-- The number of the next node after a change.
use Rattle.std.proofs.Common.{◌≡◌, ℕ, ◌+◌, ◌==◌, Bool, true, false, List, Some, None, Option, sym, ap}
use Rattle.std.specs.Prelude.{Ok, Err, if◌then◌else◌}
use Rattle.names.specs.declared.errors.Errno.TheVariants.{EPERM, ENOENT, EEXIST, ENOTDIR, EISDIR, EINVAL, ENOSPC, ENOTEMPTY}
use Rattle.directory_tree.specs.declared.node.NodeKind.{NodeKind}
use Rattle.directory_tree.specs.declared.node.NodeKind.TheVariants.{Directory, File, Link}
use Rattle.directory_tree.specs.declared.change.Change.{Change}
use Rattle.directory_tree.specs.declared.change.Change.TheVariants as change
use Rattle.directory_tree.specs.Tree.{Tree, Entry, find, is_directory, is_empty}
use Rattle.directory_tree.specs.Apply.{apply, at_one, make, make_at, link, link_from, link_to, unlink, unlink_at, rmdir, rmdir_at, rename}
use Rattle.directory_tree.specs.Apply.{rename_from, rename_onto, onto_kind, goes_below, moved, with_entry, entry, dropped, is_file}
use Rattle.directory_tree.specs.Apply.{text_of, directory_target, other_target}
use Rattle.names.specs.laws.Results.{err-ok, same_Ok}
use Rattle.directory_tree.proofs.Changes.{and_then_inv}
use Rattle.directory_tree.proofs.Actions.{acts_one, acts_two}
use Rattle.directory_tree.proofs.Accepted.{gives_way}
use Rattle.row_plan.specs.Plan.{next_after}

next_same : (t u : Tree) → t ≡ u → u.next ≡ t.next
next_same t u h = ap (λ (z : Tree). z.next) (sym h)

made_next : (t u : Tree) (room : Bool) (kind : NodeKind) (d : ℕ) (c : List ℕ) → make t room kind d c ≡ Ok u → u.next ≡ t.next + 1
made_next t u room kind d c h = elim (find t.entries d c) as (λ (o : Option Entry). make_at t room kind d c o ≡ Ok u →
    u.next ≡ t.next + 1) [
      | Some e ↦ λ q. absurd (err-ok EEXIST u q)
      | None ↦ λ q. elim room as (λ (b : Bool). (if b then Ok (with_entry t (entry d c t.next kind) (t.next + 1)) else Err ENOSPC) ≡ Ok u →
          u.next ≡ t.next + 1) [
            | true ↦ λ r. next_same (with_entry t (entry d c t.next kind) (t.next + 1)) u (same_Ok _ u r)
            | false ↦ λ r. absurd (err-ok ENOSPC u r)
          ] q
    ] h

linked_next : (t u : Tree) (room : Bool) (d : ℕ) (c : List ℕ) (into : ℕ) (name : List ℕ) → link t room d c into name ≡ Ok u →
    u.next ≡ t.next
linked_next t u room d c into name h = elim (find t.entries d c) as (λ (o : Option Entry). link_from t room into name o ≡ Ok u →
    u.next ≡ t.next) [
      | None ↦ λ q. absurd (err-ok ENOENT u q)
      | Some old ↦ λ q. elim (is_file old.kind) as
          (λ (b : Bool). (if b then link_to t room old into name (find t.entries into name) else Err EPERM) ≡ Ok u → u.next ≡ t.next) [
            | false ↦ λ r. absurd (err-ok EPERM u r)
            | true ↦ λ r. elim (find t.entries into name) as (λ (o : Option Entry). link_to t room old into name o ≡ Ok u →
                u.next ≡ t.next) [
                  | Some e ↦ λ s. absurd (err-ok EEXIST u s)
                  | None ↦ λ s. elim room as
                      (λ (b : Bool). (if b then Ok (with_entry t (entry into name old.node old.kind) t.next) else Err ENOSPC)
                      ≡ Ok u → u.next ≡ t.next) [
                        | true ↦ λ x. next_same (with_entry t (entry into name old.node old.kind) t.next) u (same_Ok _ u x)
                        | false ↦ λ x. absurd (err-ok ENOSPC u x)
                      ] s
                ] r
          ] q
    ] h

unlinked_next : (t u : Tree) (d : ℕ) (c : List ℕ) → unlink t d c ≡ Ok u → u.next ≡ t.next
unlinked_next t u d c h = elim (find t.entries d c) as (λ (o : Option Entry). unlink_at t d c o ≡ Ok u → u.next ≡ t.next) [
  | None ↦ λ q. absurd (err-ok ENOENT u q)
  | Some e ↦ λ q. elim (is_directory e.kind) as (λ (b : Bool). (if b then Err EISDIR else Ok (dropped t d c)) ≡ Ok u → u.next ≡ t.next) [
    | true ↦ λ r. absurd (err-ok EISDIR u r)
    | false ↦ λ r. next_same (dropped t d c) u (same_Ok _ u r)
  ] q
] h

removed_next : (t u : Tree) (d : ℕ) (c : List ℕ) → rmdir t d c ≡ Ok u → u.next ≡ t.next
removed_next t u d c h = elim (find t.entries d c) as (λ (o : Option Entry). rmdir_at t d c o ≡ Ok u → u.next ≡ t.next) [
  | None ↦ λ q. absurd (err-ok ENOENT u q)
  | Some e ↦ λ q. elim (is_directory e.kind) as
      (λ (b : Bool). (if b then (if is_empty t.entries e.node then Ok (dropped t d c) else Err ENOTEMPTY) else Err ENOTDIR) ≡ Ok u →
      u.next ≡ t.next) [
        | false ↦ λ r. absurd (err-ok ENOTDIR u r)
        | true ↦ λ r. elim (is_empty t.entries e.node) as (λ (b : Bool). (if b then Ok (dropped t d c) else Err ENOTEMPTY) ≡ Ok u →
            u.next ≡ t.next) [
              | true ↦ λ s. next_same (dropped t d c) u (same_Ok _ u s)
              | false ↦ λ s. absurd (err-ok ENOTEMPTY u s)
            ] r
      ] q
] h

renamed_next : (t u : Tree) (d : ℕ) (c : List ℕ) (into : ℕ) (name : List ℕ) → rename t d c into name ≡ Ok u → u.next ≡ t.next
renamed_next t u d c into name h = elim (find t.entries d c) as (λ (o : Option Entry). rename_from t d c into name o ≡ Ok u →
    u.next ≡ t.next) [
      | None ↦ λ q. absurd (err-ok ENOENT u q)
      | Some old ↦ λ q. elim (find t.entries into name) as (λ (o : Option Entry). rename_onto t old into (Ok (moved t d c into name)) o
          ≡ Ok u → u.next ≡ t.next) [
            | None ↦ λ r. elim (goes_below t.entries old into) as (λ (b : Bool). (if b then Err EINVAL else Ok (moved t d c into name))
                ≡ Ok u →
                u.next ≡ t.next) [
                  | true ↦ λ s. absurd (err-ok EINVAL u s)
                  | false ↦ λ s. next_same (moved t d c into name) u (same_Ok _ u s)
                ] r
            | Some new ↦ λ r. elim (new.node == old.node) as
                (λ (b : Bool). (if b then Ok t else (if goes_below t.entries old into then Err EINVAL else onto_kind t.entries old new
                (Ok (moved t d c into name)))) ≡ Ok u → u.next ≡ t.next) [
                  | true ↦ λ s. next_same t u (same_Ok t u s)
                  | false ↦ λ s. elim (goes_below t.entries old into) as
                      (λ (b : Bool). (if b then Err EINVAL else onto_kind t.entries old new (Ok (moved t d c into name))) ≡ Ok u →
                      u.next ≡ t.next) [
                        | true ↦ λ x. absurd (err-ok EINVAL u x)
                        | false ↦ λ x. next_same (moved t d c into name) u (gives_way (is_directory old.kind) (is_directory new.kind)
                            (is_empty t.entries new.node) (moved t d c into name) u x).0
                      ] s
                ] r
          ] q
    ] h

-- an accepted change gives away the next number, or keeps it
pub numbered : (t u : Tree) (room : Bool) (c : Change) → apply t room c ≡ Ok u → u.next ≡ next_after t.next c
numbered t u room (change.Mkdir path) h = let (d, c, made) = acts_one t u (directory_target path) (make t room Directory) h in
    made_next t u room Directory d c made
numbered t u room (change.Create path) h = let (d, c, made) = acts_one t u (other_target path) (make t room File) h in
    made_next t u room File d c made
numbered t u room (change.Symlink text path) h =
    let (bytes, is, rest) = and_then_inv (text_of text) (λ bytes. at_one t (other_target path) (make t room (Link bytes))) u h in
    let (d, c, made) = acts_one t u (other_target path) (make t room (Link bytes)) rest in
    made_next t u room (Link bytes) d c made
numbered t u room (change.Link old new) h = let (d, c, into, name, linked) = acts_two t u (other_target old) (other_target new)
    (link t room) h in linked_next t u room d c into name linked
numbered t u room (change.Unlink path) h = let (d, c, gone) = acts_one t u (other_target path) (unlink t) h in unlinked_next t u d c gone
numbered t u room (change.Rmdir path) h = let (d, c, gone) = acts_one t u (directory_target path) (rmdir t) h in removed_next t u d c gone
numbered t u room (change.Rename old new) h = let (d, c, into, name, renamed) = acts_two t u (other_target old) (other_target new)
    (rename t) h in renamed_next t u d c into name renamed
