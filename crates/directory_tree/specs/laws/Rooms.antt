-- A history that is accepted results in the same tree at any capacity of at least its length: a change makes at most one entry.
use Rattle.std.proofs.Common.{◌≡◌, ℕ, ◌+◌, ◌≤◌, Bool, true, false, List, [], ◌∷◌, ◌++◌, length, Some, None, Option, refl, ap, ◌∙◌, arith}
use Rattle.std.proofs.Common.{length-append}
use Rattle.std.proofs.lemmas.Bool.{lt-ltb}
use Rattle.std.specs.Prelude.{Result, Ok, Err, nat_lt, if◌then◌else◌, ◌==◌}
use Rattle.names.specs.declared.errors.Errno.{Errno}
use Rattle.names.specs.declared.errors.Errno.TheVariants.{EPERM, ENOENT, EEXIST, ENOTDIR, EISDIR, EINVAL, ENOSPC, ENOTEMPTY, EOVERFLOW}
use Rattle.directory_tree.specs.declared.change.Change.{Change}
use Rattle.directory_tree.specs.declared.change.Change.TheVariants as change
use Rattle.directory_tree.specs.declared.node.NodeKind.{NodeKind}
use Rattle.directory_tree.specs.declared.node.NodeKind.TheVariants.{Directory, File, Link}
use Rattle.directory_tree.specs.Tree.{Tree, Entry, root_alone, find, is_at, is_directory, is_empty}
use Rattle.directory_tree.specs.Apply.{Changed, Target, and_then, entry, with_entry, make_at, make, is_file, link_to, link_from, link}
use Rattle.directory_tree.specs.Apply.{without, dropped, unlink_at, unlink, rmdir_at, rmdir, placed, moved, goes_below, onto_kind}
use Rattle.directory_tree.specs.Apply.{rename_onto, rename_from, rename, parent_of, text_of, directory_target, other_target, at_one}
use Rattle.directory_tree.specs.Apply.{at_two, apply, most_changes, has_room, after_from, tree_after}
use Rattle.names.specs.laws.Results.{err-ok, same_Ok}

abbrev good : Tree → Changed
good t = Ok t

-- what follows a first step that succeeded
then_gives : {X : Type 0} (r : Result X Errno) (f : X → Changed) (u : Tree) (P : Type 0) → ((x : X) → f x ≡ Ok u → P) →
    and_then r f ≡ Ok u → P
then_gives (Err e) f u P h k = absurd (err-ok e u k)
then_gives (Ok x) f u P h k = h x k

then_ok : {X : Type 0} (r : Result X Errno) (f g : X → Changed) (u : Tree) → ((x : X) → f x ≡ Ok u → g x ≡ Ok u) → and_then r f ≡ Ok u →
    and_then r g ≡ Ok u
then_ok (Err e) f g u h k = k
then_ok (Ok x) f g u h k = h x k

one_gives : (t : Tree) (a : Result Target Errno) (act : ℕ → List ℕ → Changed) (u : Tree) (P : Type 0) →
    ((d : ℕ) (c : List ℕ) → act d c ≡ Ok u → P) → at_one t a act ≡ Ok u → P
one_gives t a act u P h k = then_gives a (λ x. and_then (parent_of t x) (λ d. act d x.last)) u P
    (λ x q. then_gives (parent_of t x) (λ d. act d x.last) u P (λ d r. h d x.last r) q) k

two_gives : (t : Tree) (a b : Result Target Errno) (act : ℕ → List ℕ → ℕ → List ℕ → Changed) (u : Tree) (P : Type 0) →
    ((d : ℕ) (c : List ℕ) (into : ℕ) (name : List ℕ) → act d c into name ≡ Ok u → P) → at_two t a b act ≡ Ok u → P
two_gives t a b act u P h k =
    then_gives a (λ x. and_then b (λ y. and_then (parent_of t x) (λ d. and_then (parent_of t y) (λ into. act d x.last into y.last)))) u P
    (λ x q. then_gives b (λ y. and_then (parent_of t x) (λ d. and_then (parent_of t y) (λ into. act d x.last into y.last))) u P
    (λ y r. then_gives (parent_of t x) (λ d. and_then (parent_of t y) (λ into. act d x.last into y.last)) u P
    (λ d s. then_gives (parent_of t y) (λ into. act d x.last into y.last) u P (λ into v. h d x.last into y.last v) s) r) q) k

-- without room nothing is made
no_make : (t : Tree) (kind : NodeKind) (d : ℕ) (c : List ℕ) (o : Option Entry) (u : Tree) → make_at t false kind d c o ≡ Ok u → ⊥
no_make t kind d c (Some e) u h = err-ok EEXIST u h
no_make t kind d c None u h = err-ok ENOSPC u h

no_link_to : (t : Tree) (old : Entry) (into : ℕ) (name : List ℕ) (o : Option Entry) (u : Tree) → link_to t false old into name o ≡ Ok u → ⊥
no_link_to t old into name (Some e) u h = err-ok EEXIST u h
no_link_to t old into name None u h = err-ok ENOSPC u h

no_link_of : (t : Tree) (file : Bool) (old : Entry) (into : ℕ) (name : List ℕ) (u : Tree) →
    (if file then link_to t false old into name (find t.entries into name) else Err EPERM) ≡ Ok u → ⊥
no_link_of t true old into name u h = no_link_to t old into name (find t.entries into name) u h
no_link_of t false old into name u h = err-ok EPERM u h

no_link : (t : Tree) (into : ℕ) (name : List ℕ) (o : Option Entry) (u : Tree) → link_from t false into name o ≡ Ok u → ⊥
no_link t into name None u h = err-ok ENOENT u h
no_link t into name (Some old) u h = no_link_of t (is_file old.kind) old into name u h

no_room : (t : Tree) (c : Change) (u : Tree) → apply t false c ≡ Ok u → apply t true c ≡ Ok u
no_room t (change.Mkdir path) u h =
    absurd (one_gives t (directory_target path) (make t false Directory) u ⊥ (λ d c k. no_make t Directory d c (find t.entries d c) u k) h)
no_room t (change.Create path) u h =
    absurd (one_gives t (other_target path) (make t false File) u ⊥ (λ d c k. no_make t File d c (find t.entries d c) u k) h)
no_room t (change.Symlink text path) u h =
    absurd (then_gives (text_of text) (λ bytes. at_one t (other_target path) (make t false (Link bytes))) u ⊥
    (λ bytes q. one_gives t (other_target path) (make t false (Link bytes)) u ⊥
    (λ d c k. no_make t (Link bytes) d c (find t.entries d c) u k) q) h)
no_room t (change.Link old new) u h =
    absurd (two_gives t (other_target old) (other_target new) (link t false) u ⊥
    (λ d c into name k. no_link t into name (find t.entries d c) u k) h)
no_room t (change.Unlink path) u h = h
no_room t (change.Rmdir path) u h = h
no_room t (change.Rename old new) u h = h

with_room : (t : Tree) (room : Bool) (c : Change) (u : Tree) → apply t room c ≡ Ok u → apply t true c ≡ Ok u
with_room t true c u h = h
with_room t false c u h = no_room t c u h

-- at most one more entry
abbrev Grows : Tree → Tree → Type 0
Grows t u = length u.entries ≤ length t.entries + 1

made_grows : (t : Tree) (e : Entry) (next : ℕ) (u : Tree) → good (with_entry t e next) ≡ Ok u → Grows t u
made_grows t e next u h =
    let is : with_entry t e next ≡ u = same_Ok (with_entry t e next) u h in
    let long : length (t.entries ++ e ∷ []) ≡ length t.entries + 1 = length-append t.entries (e ∷ []) in
    let same : length (t.entries ++ e ∷ []) ≡ length u.entries = ap (λ (z : Tree). length z.entries) is in omega arith

same_grows : (t u : Tree) → good t ≡ Ok u → Grows t u
same_grows t u h = let same : length t.entries ≡ length u.entries = ap (λ (z : Tree). length z.entries) (same_Ok t u h) in omega arith

make_grows : (t : Tree) (room : Bool) (kind : NodeKind) (d : ℕ) (c : List ℕ) (o : Option Entry) (u : Tree) →
    make_at t room kind d c o ≡ Ok u → Grows t u
make_grows t room kind d c (Some e) u h = absurd (err-ok EEXIST u h)
make_grows t true kind d c None u h = made_grows t (entry d c t.next kind) (t.next + 1) u h
make_grows t false kind d c None u h = absurd (err-ok ENOSPC u h)

link_to_grows : (t : Tree) (room : Bool) (old : Entry) (into : ℕ) (name : List ℕ) (o : Option Entry) (u : Tree) →
    link_to t room old into name o ≡ Ok u → Grows t u
link_to_grows t room old into name (Some e) u h = absurd (err-ok EEXIST u h)
link_to_grows t true old into name None u h = made_grows t (entry into name old.node old.kind) t.next u h
link_to_grows t false old into name None u h = absurd (err-ok ENOSPC u h)

link_of_grows : (t : Tree) (file room : Bool) (old : Entry) (into : ℕ) (name : List ℕ) (u : Tree) →
    (if file then link_to t room old into name (find t.entries into name) else Err EPERM) ≡ Ok u → Grows t u
link_of_grows t true room old into name u h = link_to_grows t room old into name (find t.entries into name) u h
link_of_grows t false room old into name u h = absurd (err-ok EPERM u h)

link_grows : (t : Tree) (room : Bool) (into : ℕ) (name : List ℕ) (o : Option Entry) (u : Tree) → link_from t room into name o ≡ Ok u →
    Grows t u
link_grows t room into name None u h = absurd (err-ok ENOENT u h)
link_grows t room into name (Some old) u h = link_of_grows t (is_file old.kind) room old into name u h

if_length : (b : Bool) (e : Entry) (xs es : List Entry) → length xs ≤ length es → length (if b then xs else e ∷ xs) ≤ length es + 1
if_length true e xs es h = omega arith
if_length false e xs es h = omega arith

without_length : (d : ℕ) (c : List ℕ) (es : List Entry) → length (without d c es) ≤ length es
without_length d c [] = omega arith
without_length d c (e ∷ es) = let more = if_length (is_at d c e) e (without d c es) es (without_length d c es) in omega arith

placed_length : (d : ℕ) (c : List ℕ) (into : ℕ) (name : List ℕ) (es : List Entry) → length (placed d c into name es) ≡ length es
placed_length d c into name [] = refl
placed_length d c into name (e ∷ es) = let same = placed_length d c into name es in omega arith

dropped_grows : (t : Tree) (d : ℕ) (c : List ℕ) (u : Tree) → good (dropped t d c) ≡ Ok u → Grows t u
dropped_grows t d c u h =
    let same : length (without d c t.entries) ≡ length u.entries = ap (λ (z : Tree). length z.entries) (same_Ok (dropped t d c) u h) in
    let less = without_length d c t.entries in omega arith

moved_grows : (t : Tree) (d : ℕ) (c : List ℕ) (into : ℕ) (name : List ℕ) (u : Tree) → good (moved t d c into name) ≡ Ok u → Grows t u
moved_grows t d c into name u h =
    let same : length (placed d c into name (without into name t.entries)) ≡ length u.entries = ap (λ (z : Tree). length z.entries)
    (same_Ok (moved t d c into name) u h) in
    let less = without_length into name t.entries in
    let as_long = placed_length d c into name (without into name t.entries) in omega arith

unlink_grows : (t : Tree) (d : ℕ) (c : List ℕ) (o : Option Entry) (u : Tree) → unlink_at t d c o ≡ Ok u → Grows t u
unlink_grows t d c None u h = absurd (err-ok ENOENT u h)
unlink_grows t d c (Some e) u h = by (is_directory e.kind) h where
  by : (b : Bool) → (if b then Err EISDIR else Ok (dropped t d c)) ≡ Ok u → Grows t u
  by true h = absurd (err-ok EISDIR u h)
  by false h = dropped_grows t d c u h

rmdir_grows : (t : Tree) (d : ℕ) (c : List ℕ) (o : Option Entry) (u : Tree) → rmdir_at t d c o ≡ Ok u → Grows t u
rmdir_grows t d c None u h = absurd (err-ok ENOENT u h)
rmdir_grows t d c (Some e) u h = by (is_directory e.kind) (is_empty t.entries e.node) h where
  by : (b empty : Bool) → (if b then (if empty then Ok (dropped t d c) else Err ENOTEMPTY) else Err ENOTDIR) ≡ Ok u → Grows t u
  by true true h = dropped_grows t d c u h
  by true false h = absurd (err-ok ENOTEMPTY u h)
  by false empty h = absurd (err-ok ENOTDIR u h)

onto_grows : (t m u : Tree) (directory onto empty : Bool) → (good m ≡ Ok u → Grows t u) →
    (if directory then (if onto then (if empty then Ok m else Err ENOTEMPTY) else Err ENOTDIR) else (if onto then Err EISDIR else Ok m))
    ≡ Ok u → Grows t u
onto_grows t m u true true true go h = go h
onto_grows t m u true true false go h = absurd (err-ok ENOTEMPTY u h)
onto_grows t m u true false empty go h = absurd (err-ok ENOTDIR u h)
onto_grows t m u false true empty go h = absurd (err-ok EISDIR u h)
onto_grows t m u false false empty go h = go h

rename_onto_grows : (t : Tree) (old : Entry) (into : ℕ) (m : Tree) (o : Option Entry) (u : Tree) → (good m ≡ Ok u → Grows t u) →
    rename_onto t old into (Ok m) o ≡ Ok u → Grows t u
rename_onto_grows t old into m None u go h = by (goes_below t.entries old into) h where
  by : (b : Bool) → (if b then Err EINVAL else Ok m) ≡ Ok u → Grows t u
  by true h = absurd (err-ok EINVAL u h)
  by false h = go h
rename_onto_grows t old into m (Some new) u go h = by (new.node == old.node) (goes_below t.entries old into) h where
  by : (same below : Bool) → (if same then Ok t else (if below then Err EINVAL else onto_kind t.entries old new (Ok m))) ≡ Ok u → Grows t u
  by true below h = same_grows t u h
  by false true h = absurd (err-ok EINVAL u h)
  by false false h = onto_grows t m u (is_directory old.kind) (is_directory new.kind) (is_empty t.entries new.node) go h

rename_grows : (t : Tree) (d : ℕ) (c : List ℕ) (into : ℕ) (name : List ℕ) (o : Option Entry) (u : Tree) → rename_from t d c into name o
    ≡ Ok u → Grows t u
rename_grows t d c into name None u h = absurd (err-ok ENOENT u h)
rename_grows t d c into name (Some old) u h = rename_onto_grows t old into (moved t d c into name) (find t.entries into name) u
    (moved_grows t d c into name u) h

grows : (t : Tree) (room : Bool) (c : Change) (u : Tree) → apply t room c ≡ Ok u → Grows t u
grows t room (change.Mkdir path) u h = one_gives t (directory_target path) (make t room Directory) u (Grows t u)
    (λ d c k. make_grows t room Directory d c (find t.entries d c) u k) h
grows t room (change.Create path) u h = one_gives t (other_target path) (make t room File) u (Grows t u)
    (λ d c k. make_grows t room File d c (find t.entries d c) u k) h
grows t room (change.Symlink text path) u h =
    then_gives (text_of text) (λ bytes. at_one t (other_target path) (make t room (Link bytes))) u (Grows t u)
    (λ bytes q. one_gives t (other_target path) (make t room (Link bytes)) u (Grows t u)
    (λ d c k. make_grows t room (Link bytes) d c (find t.entries d c) u k) q) h
grows t room (change.Link old new) u h = two_gives t (other_target old) (other_target new) (link t room) u (Grows t u)
    (λ d c into name k. link_grows t room into name (find t.entries d c) u k) h
grows t room (change.Unlink path) u h = one_gives t (other_target path) (unlink t) u (Grows t u)
    (λ d c k. unlink_grows t d c (find t.entries d c) u k) h
grows t room (change.Rmdir path) u h = one_gives t (directory_target path) (rmdir t) u (Grows t u)
    (λ d c k. rmdir_grows t d c (find t.entries d c) u k) h
grows t room (change.Rename old new) u h = two_gives t (other_target old) (other_target new) (rename t) u (Grows t u)
    (λ d c into name k. rename_grows t d c into name (find t.entries d c) u k) h

all_room : (n capacity count : ℕ) (t : Tree) (cs : List Change) (u : Tree) → length t.entries ≤ count → count + length cs ≤ n →
    after_from capacity count t cs ≡ Ok u → after_from n count t cs ≡ Ok u
all_room n capacity count t [] u low fits h = h
all_room n capacity count t (c ∷ cs) u low fits h =
    by (nat_lt count most_changes) (apply t (has_room capacity t) c) refl (λ v more k. all_room n capacity (count + 1) v cs u (omega arith)
    (omega arith) k) h where
      roomy : has_room n t ≡ true
      roomy = lt-ltb (length t.entries) n (omega arith)

      by : (counted : Bool) (r : Changed) → apply t (has_room capacity t) c ≡ r
          → ((v : Tree) → length v.entries ≤ length t.entries + 1 → after_from capacity (count + 1) v cs ≡ Ok u →
          after_from n (count + 1) v cs ≡ Ok u)
          → and_then (if counted then r else Err EOVERFLOW) (λ v. after_from capacity (count + 1) v cs) ≡ Ok u
          → and_then (if counted then apply t (has_room n t) c else Err EOVERFLOW) (λ v. after_from n (count + 1) v cs) ≡ Ok u
      by false r is on k = absurd (err-ok EOVERFLOW u k)
      by true (Err e) is on k = absurd (err-ok e u k)
      by true (Ok v) is on k =
          let made : apply t (has_room n t) c ≡ Ok v = ap (λ (b : Bool). apply t b c) roomy ∙ with_room t (has_room capacity t) c v is in
          ap (λ (x : Changed). and_then x (λ z. after_from n (count + 1) z cs)) made ∙ on v (grows t (has_room capacity t) c v is) k

pub roomy_after : (n capacity : ℕ) (cs : List Change) (u : Tree) → length cs ≤ n → tree_after capacity cs ≡ Ok u → tree_after n cs ≡ Ok u
roomy_after n capacity cs u fits h = all_room n capacity 0 root_alone cs u (omega arith) (omega arith) h
