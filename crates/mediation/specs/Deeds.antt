-- The published profiles, by what was done to them.
use Rattle.std.specs.Prelude.{ℕ, List, [], ◌∷◌, Option, Some, None, bytes_eq, if◌then◌else◌}
use Rattle.mediation.specs.Judge.{Judge, by_rules}
use Rattle.rule_profile.specs.Profile.{ProfileValue}

-- one change of what is published
pub data Deed : Type 0 where
  -- a profile under this name, in place of the one that was there
  published : List ℕ → Judge → Deed
  -- no profile under this name
  removed : List ℕ → Deed

-- a profile that was compiled, under its own name
abbrev pub published_rules : ProfileValue → Deed
published_rules profile = published profile.name (by_rules profile.rules)

-- the profile of each name that has one
abbrev pub Policy : Type 0
Policy = List ℕ → Option Judge

abbrev pub after_deed : Policy → Deed → Policy
after_deed policy (published own judge) name = if bytes_eq own name then Some judge else policy name
after_deed policy (removed own) name = if bytes_eq own name then None else policy name

abbrev pub after_deeds : Policy → List Deed → Policy
after_deeds policy [] = policy
after_deeds policy (deed ∷ deeds) = after_deeds (after_deed policy deed) deeds

-- what is published after these deeds, oldest first
abbrev pub policy_after : List Deed → Policy
policy_after deeds = after_deeds (λ name. None) deeds
