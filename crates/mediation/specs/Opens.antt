-- A judged open: the verdict of a profile on the name of the file that a path leads to.
use Rattle.std.specs.Prelude.{ℕ, ◌&&◌, Bool, not, List, Option, Some, None, Result, Ok, Err, if◌then◌else◌}
use Rattle.std.specs.List.{list_any}
use Rattle.names.specs.declared.errors.Errno.{Errno}
use Rattle.names.specs.declared.errors.Errno.TheVariants.{EINVAL}
use Rattle.names.specs.declared.permissions.Permission.TheVariants.{Link}
use Rattle.names.specs.declared.permissions.Perms.{Perms}
use Rattle.names.specs.Paths.{path_fault}
use Rattle.names.specs.Permissions.{has, all_permissions}
use Rattle.directory_tree.specs.declared.node.Last.TheVariants.{Follow}
use Rattle.directory_tree.specs.Tree.{Tree}
use Rattle.directory_tree.specs.Walk.{Spot, walk}
use Rattle.directory_tree.specs.Name.{judged_name}
use Rattle.directory_tree.specs.Apply.{and_then}
use Rattle.directory_tree.specs.Spots.{node_at}
use Rattle.names.specs.declared.verdict.Verdict.{Verdict}
use Rattle.mediation.specs.Judge.{Judge, verdict_by}

-- a file that was reached: its name and its node
pub record Reached : Type 0 where
  pub name : List ℕ
  pub node : ℕ

-- a file that was judged: its name, its node and the verdict
pub record Judged : Type 0 where
  pub name : List ℕ
  pub node : ℕ
  pub verdict : Verdict

-- a text as a path, or why it isn't one
abbrev pub path_of : List ℕ → Result (List ℕ) Errno
path_of text = elim (path_fault text) [ None ↦ Ok text | Some errno ↦ Err errno ]

-- An open asks for something, and not to link (our choice: links are judged by their own call).
abbrev pub can_be_asked : Perms → Bool
can_be_asked ask = list_any (has ask) all_permissions && not (has ask Link)

-- a spot by the name that it has in the tree
abbrev pub reached_at : Tree → Spot → Result Reached Errno
reached_at t spot = and_then (judged_name t spot) (λ name. Ok (record { name = name; node = node_at spot }))

-- what a path leads to; a link at its end is followed
abbrev pub reached_by_path : Tree → List ℕ → Result Reached Errno
reached_by_path t path = and_then (walk t Follow path) (reached_at t)

-- the file that an open reaches, or the first reason why it reaches none that can be judged
abbrev pub reached : Tree → List ℕ → Perms → Result Reached Errno
reached t text ask =
    if can_be_asked ask
    then and_then (path_of text) (reached_by_path t)
    else Err EINVAL

-- the verdict on a file that was reached, by its name
abbrev pub judged_file : Judge → Perms → Reached → Judged
judged_file judge ask file = record { name = file.name; node = file.node; verdict = verdict_by judge file.name ask }

-- the outcome of an open, or the first reason why it fails
abbrev pub opened : Tree → Judge → List ℕ → Perms → Result Judged Errno
opened t judge text ask = and_then (reached t text ask) (λ file. Ok (judged_file judge ask file))

-- the answers to an open, with the numbers of changes of the tree and of the policy
pub data Answered : Type 0 where
  judged : Judged → ℕ → ℕ → Answered
  failed : Errno → ℕ → Answered
  no_profile : ℕ → Answered

abbrev pub answered_by : Tree → ℕ → ℕ → List ℕ → Perms → Option Judge → Answered
answered_by t tree policy text ask None = no_profile policy
answered_by t tree policy text ask (Some judge) =
    elim (opened t judge text ask) [ Ok j ↦ judged j tree policy | Err errno ↦ failed errno tree ]
