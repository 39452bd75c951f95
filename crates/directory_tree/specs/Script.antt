-- The answers to a script of changes, one after the other: for worked rows.
use Rattle.std.specs.Prelude.{ℕ, zero, suc, ◌+◌, List, [], ◌∷◌, ◌++◌, codes, Result, Ok, Err}
use Rattle.names.specs.Ascii as ascii
use Rattle.names.specs.declared.errors.Errno.{Errno}
use Rattle.directory_tree.specs.declared.change.Change.{Change}
use Rattle.directory_tree.specs.declared.change.Change.TheVariants as change
use Rattle.directory_tree.specs.declared.node.Last.TheVariants.{Follow}
use Rattle.directory_tree.specs.Components.{slash}
use Rattle.directory_tree.specs.Tree.{Tree, root_alone}
use Rattle.directory_tree.specs.Walk.{walk}
use Rattle.directory_tree.specs.Name.{judged_name}
use Rattle.directory_tree.specs.Apply.{and_then, apply_counted, tree_after}

-- the number of changes accepted so far, or the error; a refused change leaves the tree as it was
abbrev pub answers_from : ℕ → ℕ → Tree → List Change → List (Result ℕ Errno)
answers_from capacity count t [] = []
answers_from capacity count t (c ∷ cs) = elim (apply_counted capacity count t c) [
  | Err e ↦ Err e ∷ answers_from capacity count t cs
  | Ok u ↦ Ok (count + 1) ∷ answers_from capacity (count + 1) u cs
]

abbrev pub answers : ℕ → List Change → List (Result ℕ Errno)
answers capacity cs = answers_from capacity 0 root_alone cs

-- the name that is judged when a path is opened after these changes
abbrev pub opened : ℕ → List Change → List ℕ → Result (List ℕ) Errno
opened capacity cs path = and_then (tree_after capacity cs) (λ t. and_then (walk t Follow path) (judged_name t))

-- a directory moves, and the names below it with it
abbrev pub moved_directory : List Change
moved_directory = change.Mkdir (codes "/a") ∷ change.Create (codes "/a/f") ∷ change.Rename (codes "/a") (codes "/b") ∷ []

-- every reason for a refusal between two directories and a file
abbrev pub refusals : List Change
refusals =
    change.Mkdir (codes "/a") ∷ change.Mkdir (codes "/b") ∷ change.Create (codes "/b/f") ∷ change.Rename (codes "/a") (codes "/b")
    ∷ change.Rename (codes "/a") (codes "/b/f") ∷ change.Rename (codes "/b/f") (codes "/a") ∷ change.Rmdir (codes "/b")
    ∷ change.Rename (codes "/b/f") (codes "/a/f") ∷ change.Rename (codes "/a") (codes "/b") ∷ change.Rmdir (codes "/a")
    ∷ change.Unlink (codes "/b") ∷ change.Symlink (codes "f") (codes "/b/l") ∷ change.Link (codes "/b/l") (codes "/x")
    ∷ change.Link (codes "/b") (codes "/x") ∷ change.Rename (codes "/b") (codes "/b") ∷ change.Rmdir (codes "/b/.")
    ∷ change.Rmdir (codes "/") ∷ change.Create (codes "/c/") ∷ change.Mkdir (codes "/c/") ∷ []

-- a rename below itself, and of two entries of one node
abbrev pub renames : List Change
renames =
    change.Mkdir (codes "/a") ∷ change.Mkdir (codes "/a/b") ∷ change.Rename (codes "/a") (codes "/a/b/c") ∷ change.Create (codes "/f")
    ∷ change.Link (codes "/f") (codes "/g") ∷ change.Rename (codes "/f") (codes "/g") ∷ change.Mkdir (codes "/f/x") ∷ change.Mkdir
    (codes "/g/x") ∷ []

-- all entries are used
abbrev pub full : List Change
full =
    change.Create (codes "/a") ∷ change.Create (codes "/b") ∷ change.Create (codes "/c") ∷ change.Rename (codes "/a") (codes "/d")
    ∷ change.Unlink (codes "/b") ∷ change.Create (codes "/c") ∷ []

-- a path of two bytes after the slash, the last of them by the number
abbrev pub numbered : ℕ → List ℕ
numbered n = codes "/l" ++ (100 + n) ∷ []

-- a link of number 0 to a file, and this many more links, each to the one of the next lower number
abbrev pub chain : ℕ → List Change
chain zero = change.Create (codes "/f") ∷ change.Symlink (codes "/f") (numbered 0) ∷ []
chain (suc n) = chain n ++ change.Symlink (numbered n) (numbered (suc n)) ∷ []

-- a link to a directory, relative
abbrev pub through_link : List Change
through_link = change.Mkdir (codes "/a") ∷ change.Create (codes "/a/f") ∷ change.Symlink (codes "a") (codes "/l") ∷ []

-- this many bytes
abbrev pub run_of : ℕ → ℕ → List ℕ
run_of b zero = []
run_of b (suc n) = b ∷ run_of b n

-- directories of 255 bytes, each in the one before
abbrev pub deep_path : ℕ → List ℕ
deep_path zero = []
deep_path (suc n) = slash ∷ (run_of ascii.letter_a 255 ++ deep_path n)

abbrev pub deep : ℕ → List Change
deep zero = []
deep (suc n) = deep n ++ change.Mkdir (deep_path (suc n)) ∷ []

-- fifteen such directories, links that each stand for three more of them, and a file with a component of `n` bytes in the last
abbrev pub long_name : ℕ → List Change
long_name n =
    deep 15 ++ change.Symlink (deep_path 3) (codes "/d1") ∷ change.Symlink (codes "/d1" ++ deep_path 3) (codes "/d2")
    ∷ change.Symlink (codes "/d2" ++ deep_path 3) (codes "/d3") ∷ change.Symlink (codes "/d3" ++ deep_path 3) (codes "/d4")
    ∷ change.Symlink (codes "/d4" ++ deep_path 3) (codes "/d5") ∷ change.Create (codes "/d5/" ++ run_of ascii.letter_b n) ∷ []
