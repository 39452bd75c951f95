-- Lists of rules that are compared, and names that represent all names.
use Rattle.std.specs.Prelude.{◌≡◌, ◌↔◌, ℕ, ◌<◌, List, Some, slice_get}
use Rattle.names.specs.Paths.{IsName}
use Rattle.rule_globs.specs.Glob.{Takes}
use Rattle.rule_globs.specs.Rules.{RuleValue, pattern}
use Rattle.rule_globs.specs.Verdict.{IsRuleAt}
use Rattle.rule_profile.specs.declared.profile.Span.{Span}
use Rattle.automaton_rows.specs.Automata.{Automaton}
use Rattle.automaton_search.specs.Order.{IsLess, IsAtMost}
use Rattle.glob_automaton.specs.Least.{IsLeastRecord}
use Rattle.profile_questions.specs.declared.comparison.Records.{Records}

-- rules, where they are in their text, and an automaton of them
pub record CompiledValue : Type 0 where
  pub rules : List RuleValue
  pub spans : List Span
  pub automaton : Automaton

pub record ComparisonValue : Type 0 where
  -- the rules that are compared
  pub first : List RuleValue
  pub second : List RuleValue
  pub third : List RuleValue
  -- the representatives
  pub names : List (List ℕ)

-- each of the rules matches both names, or neither
abbrev pub IsAlike : List RuleValue → List ℕ → List ℕ → Type 0
IsAlike rules one other =
    (n : ℕ) (rule : RuleValue) → IsRuleAt rules n rule → Takes (pattern rule) one ↔ Takes (pattern rule) other

-- so does each of the rules that are compared
abbrev pub AreAlike : ComparisonValue → List ℕ → List ℕ → Type 0
AreAlike c one other = IsAlike c.first one other × IsAlike c.second one other × IsAlike c.third one other

-- Names in ascending order, among which each name has one that no rule distinguishes from it and that isn't greater.
pub record AreRepresentatives (c : ComparisonValue) : Type 0 where
  pub named : (i : ℕ) (name : List ℕ) → slice_get c.names i ≡ Some name → IsName name
  pub ascending : (i j : ℕ) (name other : List ℕ) → i < j → slice_get c.names i ≡ Some name → slice_get c.names j ≡ Some other →
      IsLess name other
  pub complete : (name : List ℕ) → IsName name → (i : ℕ) × (least : List ℕ) × (slice_get c.names i ≡ Some least)
      × IsAtMost least name × AreAlike c name least

-- the least hits of a name
pub record AreLeastHits (c : ComparisonValue) (name : List ℕ) (records : Records) : Type 0 where
  pub first : IsLeastRecord c.first name records.first
  pub second : IsLeastRecord c.second name records.second
  pub third : IsLeastRecord c.third name records.third
