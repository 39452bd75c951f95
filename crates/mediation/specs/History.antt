-- What was done: to the tree and to the policy.
use Rattle.std.specs.Prelude.{ℕ, List, [], ◌∷◌, ◌++◌, ◌+◌, ◌^◌, ◌<◌, length}
use Rattle.names.specs.declared.permissions.Perms.{Perms}
use Rattle.directory_tree.specs.declared.change.Change.{Change}
use Rattle.directory_tree.specs.declared.change.Change.TheVariants as tree
use Rattle.directory_tree.specs.Plain.{Plain, new_plain, changed, tree_of}
use Rattle.mediation.specs.Deeds.{Deed, policy_after}
use Rattle.mediation.specs.Links.{LinkAnswered, made, not_allowed, failed, no_profile, link_answered}
use Rattle.mediation.specs.Opens.{Answered, answered_by}

-- accepted changes of the tree, with its capacity, and changes of the policy
pub record History : Type 0 where
  pub tree : Plain
  pub deeds : List Deed

abbrev pub history_of : Plain → List Deed → History
history_of tree deeds = record { tree = tree; deeds = deeds }

-- nothing was done yet
abbrev pub new_history : ℕ → History
new_history capacity = record { tree = new_plain capacity; deeds = [] }

abbrev pub with_deed : History → Deed → History
with_deed history deed = record history { deeds = history.deeds ++ deed ∷ [] }

abbrev pub with_change : History → Change → History
with_change history c = record history { tree = changed history.tree c }

-- the versions: how many changes there were, of the tree and of the policy
abbrev pub tree_version : History → ℕ
tree_version history = length history.tree.history

abbrev pub policy_version : History → ℕ
policy_version history = length history.deeds

-- one more change of the policy has a number
abbrev pub MayChangePolicy : List Deed → Type 0
MayChangePolicy deeds = length deeds + 1 < 2 ^ 60

-- the answer to an open of a path, by the profile of a name
abbrev pub open_answer : History → List ℕ → List ℕ → Perms → Answered
open_answer history profile path ask =
    answered_by (tree_of history.tree) (tree_version history) (policy_version history) path ask (policy_after history.deeds profile)

-- the answer to a judged link, by the profile of a name
abbrev pub link_answer : History → List ℕ → List ℕ → List ℕ → LinkAnswered
link_answer history profile old new = link_answered history.tree (policy_version history) old new (policy_after history.deeds profile)

-- after an answer to a judged link: a link that was made is a change of the tree
abbrev pub after_link : History → List ℕ → List ℕ → LinkAnswered → History
after_link history old new (made j tree_now policy) = with_change history (tree.Link old new)
after_link history old new (not_allowed j tree_now policy) = history
after_link history old new (failed errno tree_now) = history
after_link history old new (no_profile policy) = history
