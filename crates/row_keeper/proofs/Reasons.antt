-- The definition refuses no change for memory: ENOMEM is none of its reasons.
use Rattle.std.proofs.Common.{◌≡◌, ◌≢◌, ℕ, zero, suc, ◌++◌, ◌==◌, ◌&&◌, ◌||◌, Bool, true, false, List, [], ◌∷◌, Some, None, Option}
use Rattle.std.proofs.Common.{map, length, refl, subst, IfErr}
use Rattle.std.specs.Prelude.{Result, Ok, Err, if◌then◌else◌, nat_lt, not}
use Rattle.std.specs.List.{list_any}
use Rattle.names.specs.declared.errors.Errno.{Errno}
use Rattle.names.specs.declared.errors.Errno.TheVariants.{ENOMEM, EPERM, ENOENT, ENOTDIR, EISDIR, EINVAL, ENOSPC}
use Rattle.names.specs.declared.errors.Errno.TheVariants.{ENAMETOOLONG, ENOTEMPTY, ELOOP}
use Rattle.names.specs.Paths.{filled_parts, ends_with_slash, has_long_component}
use Rattle.directory_tree.specs.declared.node.NodeKind.{NodeKind}
use Rattle.directory_tree.specs.declared.node.NodeKind.TheVariants.{Directory, File, Link}
use Rattle.directory_tree.specs.declared.node.Last.{Last}
use Rattle.directory_tree.specs.declared.node.Last.TheVariants.{Follow}
use Rattle.directory_tree.specs.declared.change.Change.{Change}
use Rattle.directory_tree.specs.declared.change.Change.TheVariants as change
use Rattle.directory_tree.specs.Components.{Step, steps_of, step_of, is_filled}
use Rattle.directory_tree.specs.Components.Step.{Here, Up, Down}
use Rattle.directory_tree.specs.Tree.{Tree, Entry, root, is_directory, find, is_empty}
use Rattle.directory_tree.specs.Walk.{Spot, Walked, above, start_of, is_last, stays, at_kind, at_entry, onward, resolve, max_links}
use Rattle.directory_tree.specs.Walk.Spot.{Root, Held}
use Rattle.directory_tree.specs.Apply.{Changed, and_then, make_at, make, is_file, link_to, link_from, link, unlink_at, unlink, rmdir_at}
use Rattle.directory_tree.specs.Apply.{rmdir, moved, goes_below, onto_kind, rename_onto, rename_from, rename, Target, target_from, is_dots}
use Rattle.directory_tree.specs.Apply.{tested, target_of, directory_target, other_target, directory_at, parent_of, at_one, at_two}
use Rattle.directory_tree.specs.Apply.{longest_link_text, text_of, apply}

-- if it is refused, that isn't for memory
abbrev Other : {X : Type 0} → Result X Errno → Type 0
Other r = IfErr r (λ errno. errno ≢ ENOMEM)

first_other : {X Y : Type 0} (r : Result X Errno) (next : X → Result Y Errno) → Other r → ((x : X) → Other (next x)) →
    Other (and_then r next)
first_other (Err e) next here there = here
first_other (Ok x) next here there = there x

either : {X : Type 0} (b : Bool) (x y : Result X Errno) → Other x → Other y → Other (if b then x else y)
either true x y one other = one
either false x y one other = other

-- walks
kind_other : (ends : Bool) (last : Last) (e : Entry) (go : Walked) (follow : List ℕ → Walked) (kind : NodeKind) → Other go →
    ((text : List ℕ) → Other (follow text)) → Other (at_kind ends last (Ok (Held e)) go follow kind)
kind_other ends last e go follow Directory on linked = on
kind_other ends last e go follow File on linked = either ends (Ok (Held e)) (Err ENOTDIR) tt (λ q. cc q)
kind_other ends last e go follow (Link text) on linked = either (ends && stays last) (Ok (Held e)) (follow text) tt (linked text)

entry_other : (ends : Bool) (last : Last) (go : ℕ → Walked) (follow : List ℕ → Walked) (o : Option Entry) → ((n : ℕ) → Other (go n)) →
    ((text : List ℕ) → Other (follow text)) → Other (at_entry ends last go follow o)
entry_other ends last go follow None on linked = λ q. cc q
entry_other ends last go follow (Some e) on linked = kind_other ends last e (go e.node) follow e.kind (on e.node) linked

module _ (t : Tree) (last : Last) where
  onward_other : (follow : ℕ → List Step → Walked) → ((d : ℕ) (xs : List Step) → Other (follow d xs)) → (d : ℕ) (xs : List Step) →
      Other (onward t last follow d xs)
  onward_other follow linked d [] = tt
  onward_other follow linked d (Here ∷ xs) = onward_other follow linked d xs
  onward_other follow linked d (Up ∷ xs) = onward_other follow linked (above t d) xs
  onward_other follow linked d (Down c ∷ xs) = entry_other (is_last xs) last (λ n. onward t last follow n xs)
      (λ text. follow (start_of text d) (steps_of text ++ xs)) (find t.entries d c) (λ n. onward_other follow linked n xs)
      (λ text. linked (start_of text d) (steps_of text ++ xs))

  resolve_other : (links d : ℕ) (xs : List Step) → Other (resolve t last links d xs)
  resolve_other zero d xs = onward_other (λ e ys. Err ELOOP) (λ e ys q. cc q) d xs
  resolve_other (suc links) d xs = onward_other (λ e ys. resolve t last links e ys) (resolve_other links) d xs

directory_other : (spot : Spot) → Other (directory_at spot)
directory_other Root = tt
directory_other (Held e) = either (is_directory e.kind) (Ok e.node) (Err ENOTDIR) tt (λ q. cc q)

parent_other : (t : Tree) (target : Target) → Other (parent_of t target)
parent_other t target = first_other (resolve t Follow max_links root (map step_of target.before)) directory_at
    (resolve_other t Follow max_links root (map step_of target.before)) directory_other

-- paths and texts
tested_other : (target : Target) → Other (tested target)
tested_other target = either (is_dots target.last) (Err EINVAL) (Ok target) (λ q. cc q) tt

target_other : (refuse_slash : Bool) (components : List (List ℕ)) → Other (target_of refuse_slash components)
target_other refuse_slash [] = λ q. cc q
target_other refuse_slash (component ∷ rest) = either refuse_slash (Err EINVAL) (tested (target_from component rest)) (λ q. cc q)
    (tested_other (target_from component rest))

text_other : (text : List ℕ) → Other (text_of text)
text_other text =
    either (not (is_filled text)) (Err ENOENT) _ (λ q. cc q)
    (either (list_any (λ b. b == 0) text) (Err EINVAL) _ (λ q. cc q)
    (either (nat_lt longest_link_text (length text) || has_long_component text) (Err ENAMETOOLONG) (Ok text) (λ q. cc q) tt))

one_other : (t : Tree) (target : Result Target Errno) (act : ℕ → List ℕ → Changed) → Other target →
    ((d : ℕ) (c : List ℕ) → Other (act d c)) → Other (at_one t target act)
one_other t target act sound acts =
    first_other target (λ a. and_then (parent_of t a) (λ d. act d a.last)) sound
    (λ a. first_other (parent_of t a) (λ d. act d a.last) (parent_other t a) (λ d. acts d a.last))

two_other : (t : Tree) (old new : Result Target Errno) (act : ℕ → List ℕ → ℕ → List ℕ → Changed) → Other old → Other new →
    ((d : ℕ) (c : List ℕ) (into : ℕ) (name : List ℕ) → Other (act d c into name)) → Other (at_two t old new act)
two_other t old new act sound sound' acts =
    first_other old _ sound (λ a. first_other new _ sound' (λ b. first_other (parent_of t a) _ (parent_other t a)
    (λ d. first_other (parent_of t b) _ (parent_other t b) (λ into. acts d a.last into b.last))))

-- what is done at the places
make_other : (t : Tree) (room : Bool) (kind : NodeKind) (of : ℕ) (component : List ℕ) (o : Option Entry) →
    Other (make_at t room kind of component o)
make_other t room kind of component (Some e) = λ q. cc q
make_other t room kind of component None = either room _ (Err ENOSPC) tt (λ q. cc q)

link_to_other : (t : Tree) (room : Bool) (old : Entry) (into : ℕ) (name : List ℕ) (o : Option Entry) →
    Other (link_to t room old into name o)
link_to_other t room old into name (Some e) = λ q. cc q
link_to_other t room old into name None = either room _ (Err ENOSPC) tt (λ q. cc q)

link_other : (t : Tree) (room : Bool) (into : ℕ) (name : List ℕ) (o : Option Entry) → Other (link_from t room into name o)
link_other t room into name None = λ q. cc q
link_other t room into name (Some old) = either (is_file old.kind) (link_to t room old into name (find t.entries into name)) (Err EPERM)
    (link_to_other t room old into name (find t.entries into name)) (λ q. cc q)

unlink_other : (t : Tree) (of : ℕ) (component : List ℕ) (o : Option Entry) → Other (unlink_at t of component o)
unlink_other t of component None = λ q. cc q
unlink_other t of component (Some e) = either (is_directory e.kind) (Err EISDIR) _ (λ q. cc q) tt

rmdir_other : (t : Tree) (of : ℕ) (component : List ℕ) (o : Option Entry) → Other (rmdir_at t of component o)
rmdir_other t of component None = λ q. cc q
rmdir_other t of component (Some e) =
    either (is_directory e.kind) _ (Err ENOTDIR) (either (is_empty t.entries e.node) _ (Err ENOTEMPTY) tt (λ q. cc q)) (λ q. cc q)

onto_other : (es : List Entry) (old new : Entry) (u : Tree) → Other (onto_kind es old new (Ok u))
onto_other es old new u =
    either (is_directory old.kind) _ _
    (either (is_directory new.kind) _ (Err ENOTDIR) (either (is_empty es new.node) (Ok u) (Err ENOTEMPTY) tt (λ q. cc q)) (λ q. cc q))
    (either (is_directory new.kind) (Err EISDIR) (Ok u) (λ q. cc q) tt)

rename_onto_other : (t : Tree) (old : Entry) (into : ℕ) (u : Tree) (o : Option Entry) → Other (rename_onto t old into (Ok u) o)
rename_onto_other t old into u None = either (goes_below t.entries old into) (Err EINVAL) (Ok u) (λ q. cc q) tt
rename_onto_other t old into u (Some new) =
    either (new.node == old.node) (Ok t) _ tt
    (either (goes_below t.entries old into) (Err EINVAL) (onto_kind t.entries old new (Ok u)) (λ q. cc q) (onto_other t.entries old new u))

rename_other : (t : Tree) (of : ℕ) (component : List ℕ) (into : ℕ) (name : List ℕ) (o : Option Entry) →
    Other (rename_from t of component into name o)
rename_other t of component into name None = λ q. cc q
rename_other t of component into name (Some old) = rename_onto_other t old into (moved t of component into name) (find t.entries into name)

apply_other : (t : Tree) (room : Bool) (c : Change) → Other (apply t room c)
apply_other t room (change.Mkdir path) = one_other t (directory_target path) (make t room Directory)
    (target_other false (filled_parts path)) (λ d x. make_other t room Directory d x (find t.entries d x))
apply_other t room (change.Create path) = one_other t (other_target path) (make t room File)
    (target_other (ends_with_slash path) (filled_parts path)) (λ d x. make_other t room File d x (find t.entries d x))
apply_other t room (change.Symlink text path) =
    first_other (text_of text) (λ bytes. at_one t (other_target path) (make t room (Link bytes))) (text_other text)
    (λ bytes. one_other t (other_target path) (make t room (Link bytes)) (target_other (ends_with_slash path) (filled_parts path))
    (λ d x. make_other t room (Link bytes) d x (find t.entries d x)))
apply_other t room (change.Link old new) =
    two_other t (other_target old) (other_target new) (link t room) (target_other (ends_with_slash old) (filled_parts old))
    (target_other (ends_with_slash new) (filled_parts new)) (λ d x into name. link_other t room into name (find t.entries d x))
apply_other t room (change.Unlink path) = one_other t (other_target path) (unlink t)
    (target_other (ends_with_slash path) (filled_parts path)) (λ d x. unlink_other t d x (find t.entries d x))
apply_other t room (change.Rmdir path) = one_other t (directory_target path) (rmdir t) (target_other false (filled_parts path))
    (λ d x. rmdir_other t d x (find t.entries d x))
apply_other t room (change.Rename old new) =
    two_other t (other_target old) (other_target new) (rename t) (target_other (ends_with_slash old) (filled_parts old))
    (target_other (ends_with_slash new) (filled_parts new)) (λ d x into name. rename_other t d x into name (find t.entries d x))

pub never_memory : (t : Tree) (room : Bool) (c : Change) → apply t room c ≡ Err ENOMEM → ⊥
never_memory t room c is = subst (λ (r : Changed). Other r) is (apply_other t room c) refl
