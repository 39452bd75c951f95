-- Why questions aren't answered.
use Rattle.std.specs.Prelude.{◌≡◌, ℕ, ◌<◌, List, length, Some, slice_get}
use Rattle.std.specs.List.{All}
use Rattle.names.specs.Paths.{IsName}
use Rattle.rule_globs.specs.Rules.{RuleValue}
use Rattle.automaton_search.specs.declared.fault.SearchFault.{SearchFault}
use Rattle.automaton_search.specs.declared.fault.SearchFault.TheVariants as searching
use Rattle.automaton_search.specs.Visits.{most_visits}
use Rattle.glob_automaton.specs.Sets.{SameSet}
use Rattle.profile_questions.specs.declared.fault.QuestionFault.{QuestionFault}
use Rattle.profile_questions.specs.declared.fault.QuestionFault.TheVariants.{TooManyStates, NoMemory}

-- the number that a fault is reported by
abbrev pub fault_number : QuestionFault → ℕ
fault_number TooManyStates = 1
fault_number NoMemory = 2

abbrev pub of_search : SearchFault → QuestionFault
of_search searching.TooManyStates = TooManyStates
of_search searching.NoMemory = NoMemory

-- after two names the same places are live in all rules
abbrev pub IsSameEverywhere : List RuleValue → List RuleValue → List RuleValue → List ℕ → List ℕ → Type 0
IsSameEverywhere one two three name other = SameSet one name other × SameSet two name other × SameSet three name other

-- names of which no two are so
pub record AreApart (one two three : List RuleValue) (names : List (List ℕ)) : Type 0 where
  pub named : All IsName names
  pub apart : (i j : ℕ) (name other : List ℕ) → i < j → slice_get names i ≡ Some name → slice_get names j ≡ Some other →
      ¬ (IsSameEverywhere one two three name other)

abbrev pub IsQuestionFault : List RuleValue → List RuleValue → List RuleValue → QuestionFault → Type 0
IsQuestionFault one two three TooManyStates = (names : List (List ℕ)) × AreApart one two three names × (most_visits < length names)
IsQuestionFault one two three NoMemory = Unit {0}
