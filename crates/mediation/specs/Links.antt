-- A judged hard link: what refuses the link itself, and what a profile says of both its names.
use Rattle.std.specs.Prelude.{ℕ, ◌+◌, List, length, Option, Some, None, Result, Ok, Err}
use Rattle.names.specs.declared.errors.Errno.{Errno}
use Rattle.names.specs.declared.permissions.Permission.TheVariants as permission
use Rattle.names.specs.declared.permissions.Perms.{Perms}
use Rattle.names.specs.Permissions.{set_of, only}
use Rattle.directory_tree.specs.declared.change.Change.TheVariants.{Link}
use Rattle.directory_tree.specs.declared.node.Last.TheVariants.{Stay}
use Rattle.directory_tree.specs.Tree.{Tree}
use Rattle.directory_tree.specs.Walk.{walk}
use Rattle.directory_tree.specs.Name.{judged_name}
use Rattle.directory_tree.specs.Apply.{and_then}
use Rattle.directory_tree.specs.Plain.{Plain, tree_of, outcome}
use Rattle.directory_tree.specs.Spots.{node_at}
use Rattle.rule_judge.specs.declared.links.LinkVerdict.{LinkVerdict}
use Rattle.rule_judge.specs.declared.links.LinkVerdict.TheVariants.{Refused, Wider, Fine}
use Rattle.rule_judge.specs.Links.{is_allowed, link_verdict}
use Rattle.mediation.specs.Judge.{Judge, verdict_by}
use Rattle.mediation.specs.Opens.{path_of}

-- a link that is judged: the name of its new entry, the node of its file and the verdict
pub record JudgedLink : Type 0 where
  pub name : List ℕ
  pub node : ℕ
  pub verdict : LinkVerdict

-- the name of the entry that a path leads to, a last link not followed
abbrev pub name_at : Tree → List ℕ → Result (List ℕ) Errno
name_at t path = and_then (walk t Stay path) (judged_name t)

-- the permissions that a name is allowed, each asked for alone
abbrev pub allowed_by : Judge → List ℕ → Perms
allowed_by judge name = set_of (λ p. is_allowed (verdict_by judge name (only p)))

-- a profile's verdict on a link, by its names
abbrev pub verdict_of_names : Judge → List ℕ → List ℕ → LinkVerdict
verdict_of_names judge old new = link_verdict (allowed_by judge old) (allowed_by judge new) (verdict_by judge new (only permission.Link))

-- the verdict on a link of the file that a path leads to, once the new entry's name is known; a name that is too long is a refusal
abbrev pub judged_by_name : Judge → Tree → List ℕ → Result (List ℕ) Errno → Result JudgedLink Errno
judged_by_name judge t old new_name =
    and_then (walk t Stay old) (λ file. and_then (judged_name t file) (λ old_name. and_then new_name (λ name.
    Ok (record { name = name; node = node_at file; verdict = verdict_of_names judge old_name name }))))

-- the outcome of a judged link, or the first reason why it fails: a fault of a path, the old one's before the new one's; what
-- refuses the link itself; a name that is too long, in the current tree or with the new entry in it
abbrev pub link_judged : Plain → Judge → List ℕ → List ℕ → Result JudgedLink Errno
link_judged plain judge old new =
    and_then (path_of old) (λ from. and_then (path_of new) (λ to. and_then (outcome plain (Link from to)) (λ linked.
    judged_by_name judge (tree_of plain) from (name_at linked to))))

-- the answers to a judged link, with the numbers of changes of the tree and of the policy
pub data LinkAnswered : Type 0 where
  made : JudgedLink → ℕ → ℕ → LinkAnswered
  not_allowed : JudgedLink → ℕ → ℕ → LinkAnswered
  failed : Errno → ℕ → LinkAnswered
  no_profile : ℕ → LinkAnswered

-- the link is made only if the profile says that it is fine: one more change
abbrev pub answer_by_verdict : JudgedLink → ℕ → ℕ → LinkVerdict → LinkAnswered
answer_by_verdict j tree policy Fine = made j (tree + 1) policy
answer_by_verdict j tree policy (Refused v) = not_allowed j tree policy
answer_by_verdict j tree policy (Wider extra) = not_allowed j tree policy

abbrev pub link_answered : Plain → ℕ → List ℕ → List ℕ → Option Judge → LinkAnswered
link_answered plain policy old new None = no_profile policy
link_answered plain policy old new (Some judge) = elim (link_judged plain judge old new) [
  | Ok j ↦ answer_by_verdict j (length plain.history) policy j.verdict
  | Err errno ↦ failed errno (length plain.history)
]

-- a link that is made
abbrev pub IsMade : LinkAnswered → Type 0
IsMade (made j tree policy) = Unit {0}
IsMade (not_allowed j tree policy) = ⊥
IsMade (failed errno tree) = ⊥
IsMade (no_profile policy) = ⊥
