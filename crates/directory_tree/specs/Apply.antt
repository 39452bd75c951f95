-- What a change makes of a tree, or why it is refused (mkdir(2), open(2), symlink(2), link(2), unlink(2), rmdir(2),
-- rename(2)). The order of the tests is our choice; the first that holds is the answer.
pub use Rattle.names.specs.Limits.{longest_link_text, most_changes}
use Rattle.std.specs.Prelude.{ℕ, ◌+◌, ◌==◌, ◌&&◌, ◌||◌, Bool, true, false, not, List, [], ◌∷◌, ◌++◌, map, length, Option, Some, None}
use Rattle.std.specs.Prelude.{Result, Ok, Err, nat_lt, if◌then◌else◌, bytes_eq}
use Rattle.std.specs.List.{list_any}
use Rattle.names.specs.declared.errors.Errno.{Errno}
use Rattle.names.specs.declared.errors.Errno.TheVariants.{EPERM, ENOENT, EBUSY, EEXIST, ENOTDIR, EISDIR, EINVAL, ENOSPC, ENAMETOOLONG}
use Rattle.names.specs.declared.errors.Errno.TheVariants.{ENOTEMPTY, EOVERFLOW}
use Rattle.directory_tree.specs.declared.node.NodeKind.{NodeKind}
use Rattle.directory_tree.specs.declared.node.NodeKind.TheVariants.{Directory, File, Link}
use Rattle.directory_tree.specs.declared.node.Last.TheVariants.{Follow}
use Rattle.directory_tree.specs.declared.change.Change.{Change}
use Rattle.directory_tree.specs.declared.change.Change.TheVariants as change
use Rattle.names.specs.Paths.{filled_parts, ends_with_slash, has_long_component}
use Rattle.directory_tree.specs.Components.{is_filled, step_of, dot, dot_dot}
use Rattle.directory_tree.specs.Tree.{Tree, Entry, root, root_alone, is_directory, is_at, find, is_empty, is_below}
use Rattle.directory_tree.specs.Walk.{Spot, resolve, max_links}
use Rattle.directory_tree.specs.Walk.Spot.{Root, Held}

abbrev pub Changed : Type 0
Changed = Result Tree Errno

-- the first error, or what comes next
abbrev pub and_then : {X Y : Type 0} → Result X Errno → (X → Result Y Errno) → Result Y Errno
and_then (Err e) next = Err e
and_then (Ok x) next = next x

-- A new entry (mkdir(2), open(2), symlink(2)): its node has the next number.
abbrev pub entry : ℕ → List ℕ → ℕ → NodeKind → Entry
entry of component node kind = record { of = of; component = component; node = node; kind = kind }

abbrev pub with_entry : Tree → Entry → ℕ → Tree
with_entry t e next = record { entries = t.entries ++ e ∷ []; next = next }

abbrev pub make_at : Tree → Bool → NodeKind → ℕ → List ℕ → Option Entry → Changed
make_at t room kind of component (Some e) = Err EEXIST
make_at t room kind of component None = if room then Ok (with_entry t (entry of component t.next kind) (t.next + 1)) else Err ENOSPC

abbrev pub make : Tree → Bool → NodeKind → ℕ → List ℕ → Changed
make t room kind of component = make_at t room kind of component (find t.entries of component)

-- One more entry of a file (link(2)). A symbolic link has exactly one (our choice; EPERM for a directory is link(2)'s).
abbrev pub is_file : NodeKind → Bool
is_file Directory = false
is_file File = true
is_file (Link text) = false

abbrev pub link_to : Tree → Bool → Entry → ℕ → List ℕ → Option Entry → Changed
link_to t room old into name (Some e) = Err EEXIST
link_to t room old into name None = if room then Ok (with_entry t (entry into name old.node old.kind) t.next) else Err ENOSPC

abbrev pub link_from : Tree → Bool → ℕ → List ℕ → Option Entry → Changed
link_from t room into name None = Err ENOENT
link_from t room into name (Some old) = if is_file old.kind then link_to t room old into name (find t.entries into name) else Err EPERM

abbrev pub link : Tree → Bool → ℕ → List ℕ → ℕ → List ℕ → Changed
link t room of component into name = link_from t room into name (find t.entries of component)

-- the entries except those at this place
abbrev pub without : ℕ → List ℕ → List Entry → List Entry
without of component [] = []
without of component (e ∷ es) = if is_at of component e then without of component es else e ∷ without of component es

abbrev pub dropped : Tree → ℕ → List ℕ → Tree
dropped t of component = record { entries = without of component t.entries; next = t.next }

-- An entry of a file or a link is removed (unlink(2)).
abbrev pub unlink_at : Tree → ℕ → List ℕ → Option Entry → Changed
unlink_at t of component None = Err ENOENT
unlink_at t of component (Some e) = if is_directory e.kind then Err EISDIR else Ok (dropped t of component)

abbrev pub unlink : Tree → ℕ → List ℕ → Changed
unlink t of component = unlink_at t of component (find t.entries of component)

-- An empty directory is removed (rmdir(2)).
abbrev pub rmdir_at : Tree → ℕ → List ℕ → Option Entry → Changed
rmdir_at t of component None = Err ENOENT
rmdir_at t of component (Some e) =
    if is_directory e.kind then (if is_empty t.entries e.node then Ok (dropped t of component) else Err ENOTEMPTY) else Err ENOTDIR

abbrev pub rmdir : Tree → ℕ → List ℕ → Changed
rmdir t of component = rmdir_at t of component (find t.entries of component)

-- An entry moves (rename(2)). What was at the new place is removed.
abbrev pub place_one : ℕ → List ℕ → ℕ → List ℕ → Entry → Entry
place_one of component into name e = if is_at of component e then entry into name e.node e.kind else e

abbrev pub placed : ℕ → List ℕ → ℕ → List ℕ → List Entry → List Entry
placed of component into name [] = []
placed of component into name (e ∷ es) = place_one of component into name e ∷ placed of component into name es

abbrev pub moved : Tree → ℕ → List ℕ → ℕ → List ℕ → Tree
moved t of component into name = record { entries = placed of component into name (without into name t.entries); next = t.next }

-- the new place is in the directory that moves, or below it
abbrev pub goes_below : List Entry → Entry → ℕ → Bool
goes_below es old into = is_directory old.kind && is_below es (length es) old.node into

-- a directory may be at the new place only if it is empty and a directory replaces it
abbrev pub onto_kind : List Entry → Entry → Entry → Changed → Changed
onto_kind es old new go =
    if is_directory old.kind
    then (if is_directory new.kind then (if is_empty es new.node then go else Err ENOTEMPTY) else Err ENOTDIR)
    else (if is_directory new.kind then Err EISDIR else go)

-- two entries of one node: nothing is done
abbrev pub rename_onto : Tree → Entry → ℕ → Changed → Option Entry → Changed
rename_onto t old into go None = if goes_below t.entries old into then Err EINVAL else go
rename_onto t old into go (Some new) =
    if new.node == old.node then Ok t else (if goes_below t.entries old into then Err EINVAL else onto_kind t.entries old new go)

abbrev pub rename_from : Tree → ℕ → List ℕ → ℕ → List ℕ → Option Entry → Changed
rename_from t of component into name None = Err ENOENT
rename_from t of component into name (Some old) = rename_onto t old into (Ok (moved t of component into name)) (find t.entries into name)

abbrev pub rename : Tree → ℕ → List ℕ → ℕ → List ℕ → Changed
rename t of component into name = rename_from t of component into name (find t.entries of component)

-- The paths of a change. The components of a path before the last, and the last; slashes at the end are dropped.
pub record Target : Type 0 where
  pub before : List (List ℕ)
  pub last : List ℕ

abbrev pub target_from : List ℕ → List (List ℕ) → Target
target_from component [] = record { before = []; last = component }
target_from component (next ∷ rest) = record { before = component ∷ (target_from next rest).before; last = (target_from next rest).last }

-- a last component that no change may name (our choice, as are the tests below)
abbrev pub is_dots : List ℕ → Bool
is_dots component = bytes_eq component dot || bytes_eq component dot_dot

abbrev pub tested : Target → Result Target Errno
tested target = if is_dots target.last then Err EINVAL else Ok target

-- slashes alone; a slash at the end; `.` or `..` last
abbrev pub target_of : Bool → List (List ℕ) → Result Target Errno
target_of refuse_slash [] = Err EBUSY
target_of refuse_slash (component ∷ rest) = if refuse_slash then Err EINVAL else tested (target_from component rest)

-- for a directory's path: it may end with a slash
abbrev pub directory_target : List ℕ → Result Target Errno
directory_target path = target_of false (filled_parts path)

abbrev pub other_target : List ℕ → Result Target Errno
other_target path = target_of (ends_with_slash path) (filled_parts path)

abbrev pub directory_at : Spot → Result ℕ Errno
directory_at Root = Ok root
directory_at (Held e) = if is_directory e.kind then Ok e.node else Err ENOTDIR

-- the directory that has the entry, or is to have it: links on the way are followed
abbrev pub parent_of : Tree → Target → Result ℕ Errno
parent_of t target = and_then (resolve t Follow max_links root (map step_of target.before)) directory_at

-- a change of one place, and of two: the form of both paths is tested before the first walk
abbrev pub at_one : Tree → Result Target Errno → (ℕ → List ℕ → Changed) → Changed
at_one t target act = and_then target (λ a. and_then (parent_of t a) (λ d. act d a.last))

abbrev pub at_two : Tree → Result Target Errno → Result Target Errno → (ℕ → List ℕ → ℕ → List ℕ → Changed) → Changed
at_two t old new act =
    and_then old (λ a. and_then new (λ b. and_then (parent_of t a) (λ d. and_then (parent_of t b) (λ into. act d a.last into b.last))))

-- the text of a link: not empty, no byte 0, and not too long (symlink(2); the limits and byte 0 are our choice)
abbrev pub text_of : List ℕ → Result (List ℕ) Errno
text_of text =
    if not (is_filled text) then Err ENOENT
    else (if list_any (λ b. b == 0) text then Err EINVAL
    else (if nat_lt longest_link_text (length text) || has_long_component text then Err ENAMETOOLONG
    else Ok text))

-- `room`: whether an entry is free
abbrev pub apply : Tree → Bool → Change → Changed
apply t room (change.Mkdir path) = at_one t (directory_target path) (make t room Directory)
apply t room (change.Create path) = at_one t (other_target path) (make t room File)
apply t room (change.Symlink text path) = and_then (text_of text) (λ bytes. at_one t (other_target path) (make t room (Link bytes)))
apply t room (change.Link old new) = at_two t (other_target old) (other_target new) (link t room)
apply t room (change.Unlink path) = at_one t (other_target path) (unlink t)
apply t room (change.Rmdir path) = at_one t (directory_target path) (rmdir t)
apply t room (change.Rename old new) = at_two t (other_target old) (other_target new) (rename t)

-- an entry is free as long as there are fewer than the capacity
abbrev pub has_room : ℕ → Tree → Bool
has_room capacity t = nat_lt (length t.entries) capacity

abbrev pub apply_counted : ℕ → ℕ → Tree → Change → Changed
apply_counted capacity count t c = if nat_lt count most_changes then apply t (has_room capacity t) c else Err EOVERFLOW

-- the tree after changes, the first of them on this tree, after `count` earlier ones
abbrev pub after_from : ℕ → ℕ → Tree → List Change → Changed
after_from capacity count t [] = Ok t
after_from capacity count t (c ∷ cs) = and_then (apply_counted capacity count t c) (λ u. after_from capacity (count + 1) u cs)

-- the tree after these changes of the root alone; no tree if one of them is refused
abbrev pub tree_after : ℕ → List Change → Changed
tree_after capacity cs = after_from capacity 0 root_alone cs
