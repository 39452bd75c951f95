-- Live places by the parts of patterns: the same that are live by steps.
use Rattle.std.proofs.Common.{ℕ, ◌↔◌, List}
use Rattle.rule_globs.specs.Glob.{Glob, LiveOrEnd}
use Rattle.rule_globs.specs.LiveSteps.{IsLeftFirst}
use Rattle.rule_profile.specs.Profile.{RuleValue, pattern}
use Rattle.rule_globs.specs.Verdict.{IsRuleAt}
use Rattle.glob_automaton.specs.Sets.{IsLive, SameSet, NoneLive}

-- the law of live places by steps
abbrev pub LeftFirst : Type 0
LeftFirst = (pattern : Glob) (bytes : List ℕ) (place : ℕ) → IsLeftFirst pattern bytes place ↔ LiveOrEnd pattern bytes place

-- the place of the rule is live, or its end is
abbrev pub IsLiveByParts : List RuleValue → List ℕ → ℕ → ℕ → Type 0
IsLiveByParts rules bytes n p = (rule : RuleValue) × IsRuleAt rules n rule × LiveOrEnd (pattern rule) bytes p

abbrev pub SameByParts : List RuleValue → List ℕ → List ℕ → Type 0
SameByParts rules one other = (n p : ℕ) → IsLiveByParts rules one n p ↔ IsLiveByParts rules other n p

abbrev pub NoneByParts : List RuleValue → List ℕ → Type 0
NoneByParts rules bytes = (n p : ℕ) → ¬ (IsLiveByParts rules bytes n p)

module _ (by_steps : LeftFirst) (rules : List RuleValue) where
  live_by_parts : (bytes : List ℕ) (n p : ℕ) → IsLive rules bytes n p ↔ IsLiveByParts rules bytes n p
  live_by_parts bytes n p = (
    λ h. (h.0, h.1, (by_steps (pattern h.0) bytes p).0 h.2),
    λ h. (h.0, h.1, (by_steps (pattern h.0) bytes p).1 h.2),
  )

  pub same_by_parts : (x y : List ℕ) → SameByParts rules x y ↔ SameSet rules x y
  same_by_parts x y = (
    λ same n p. (
      λ h. (live_by_parts y n p).1 ((same n p).0 ((live_by_parts x n p).0 h)),
      λ h. (live_by_parts x n p).1 ((same n p).1 ((live_by_parts y n p).0 h)),
    ),
    λ same n p. (
      λ h. (live_by_parts y n p).0 ((same n p).0 ((live_by_parts x n p).1 h)),
      λ h. (live_by_parts x n p).0 ((same n p).1 ((live_by_parts y n p).1 h)),
    ),
  )

  pub none_by_parts : (bytes : List ℕ) → NoneByParts rules bytes ↔ NoneLive rules bytes
  none_by_parts bytes = (
    λ none n p h. none n p ((live_by_parts bytes n p).0 h),
    λ none n p h. none n p ((live_by_parts bytes n p).1 h),
  )
