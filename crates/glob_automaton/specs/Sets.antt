-- The sets of live places of a profile's rules, and how many different ones the prefixes of names have.
use Rattle.std.specs.Prelude.{◌≡◌, ◌↔◌, ℕ, ◌+◌, ◌<◌, ◌≤◌, List, [], ◌∷◌, length, All, slice_index_or}
use Rattle.names.specs.Ascii as ascii
use Rattle.rule_globs.specs.LiveSteps.{IsLeftFirst}
use Rattle.rule_profile.specs.Profile.{RuleValue, pattern}
use Rattle.rule_globs.specs.Verdict.{IsRuleAt}

-- The place p of the rule with number n is live after the bytes: some steps with these bytes leave it first. Rules are
-- numbered from 1. The places of a rule are numbered from 0 in the order written, and its end has the next number. (The same
-- places are live by the parts of the pattern: the law `live_is_left_first` of rule_text.)
abbrev pub IsLive : List RuleValue → List ℕ → ℕ → ℕ → Type 0
IsLive rules bytes n p = (rule : RuleValue) × IsRuleAt rules n rule × IsLeftFirst (pattern rule) bytes p

-- after both the same places are live
abbrev pub SameSet : List RuleValue → List ℕ → List ℕ → Type 0
SameSet rules one other = (n p : ℕ) → IsLive rules one n p ↔ IsLive rules other n p

-- nothing is live any more
abbrev pub NoneLive : List RuleValue → List ℕ → Type 0
NoneLive rules bytes = (n p : ℕ) → ¬ (IsLive rules bytes n p)

-- a prefix of a name: nothing, or bytes other than 0, the first of which is a slash
abbrev pub IsPrefixOfName : List ℕ → Type 0
IsPrefixOfName [] = Unit {0}
IsPrefixOfName (b ∷ bytes) = (b ≡ ascii.slash) × All (λ c. (0 < c) × (c < 256)) bytes

-- no two of these prefixes of names have the same set, and none has the empty one
pub record AreDifferent (rules : List RuleValue) (prefixes : List (List ℕ)) : Type 0 where
  pub prefixes_of_names : All IsPrefixOfName prefixes
  pub some_live : All (λ bytes. ¬ (NoneLive rules bytes)) prefixes
  pub different : (i j : ℕ) → i < j → j < length prefixes → ¬ (SameSet rules (slice_index_or prefixes i []) (slice_index_or prefixes j []))

-- the number of the different sets over all prefixes of names, the empty set counted
abbrev pub IsCount : List RuleValue → ℕ → Type 0
IsCount rules n =
    ((prefixes : List (List ℕ)) → AreDifferent rules prefixes → length prefixes + 1 ≤ n)
    × ((prefixes : List (List ℕ)) × AreDifferent rules prefixes × (length prefixes + 1 ≡ n))

-- there are more than n
abbrev pub AreMoreThan : ℕ → List RuleValue → Type 0
AreMoreThan n rules = (prefixes : List (List ℕ)) × AreDifferent rules prefixes × (n < length prefixes + 1)
