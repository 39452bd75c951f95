-- Ascending lists, with numbers added.
use Rattle.std.specs.Prelude.{◌≡◌, ◌⊎◌, ◌↔◌, ℕ, List, [], length, map, Some, Vec, slice_get, slice_index_or, Contains}
use Rattle.std.specs.declared.alloc.Global.{Global}
use Rattle.profile_questions.specs.declared.comparison.Records.{Records}
use Rattle.rule_globs.specs.Rules.{RuleValue}
use Rattle.rule_influence.specs.StandIns.{IsAscending}
use Rattle.rule_influence.specs.declared.substitutes.IdleCase.{IdleCase}
use Rattle.rule_influence.specs.inner.Candidates.{IsAtNameFor}

abbrev pub numbers_of : List (Vec ℕ Global) → List (List ℕ)
numbers_of lists = map (λ list. list.items) lists

-- the list of the case with this index
abbrev pub list_at : List (Vec ℕ Global) → ℕ → List ℕ
list_at lists i = slice_index_or (numbers_of lists) i []

-- the members of a list that ascends, and the numbers of a set
pub record AreAdded (S : ℕ → Type 0) (old new : List ℕ) : Type 0 where
  pub ascending : IsAscending new
  pub members : (n : ℕ) → Contains new n ↔ (Contains old n ⊎ S n)

-- to each list that ascends what stands in at a name is added
pub record AreNotedAt (rules : List RuleValue) (cases : List IdleCase) (records : Records) (name : List ℕ)
    (old new : List (Vec ℕ Global)) : Type 0 where
  pub each : length new ≡ length old
  pub noted : (i : ℕ) (idle : IdleCase) → slice_get cases i ≡ Some idle → IsAscending (list_at old i) →
      AreAdded (IsAtNameFor rules idle records name) (list_at old i) (list_at new i)
