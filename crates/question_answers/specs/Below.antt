-- The names that a question is about, and the least of those that are wanted.
use Rattle.std.specs.Prelude.{ℕ, Bool, true, false, List, [], ◌∷◌, Option, Some, None}
use Rattle.automaton_search.specs.Order.{IsAtMost}
use Rattle.derived_profiles.specs.Pattern.{read_rule}
use Rattle.names.specs.Paths.{IsName}
use Rattle.rule_globs.specs.Glob.{Takes}
use Rattle.rule_globs.specs.Rules.{RuleValue}
use Rattle.rule_globs.specs.Tokens.{Token, pattern_of}

-- the path matches the name
abbrev pub IsTaken : List Token → List ℕ → Type 0
IsTaken path name = IsName name × Takes (pattern_of path) name

-- a name, and one that the path matches if there is one
abbrev pub IsBelow : Option (List Token) → List ℕ → Type 0
IsBelow None name = IsName name
IsBelow (Some path) name = IsTaken path name

-- a path is given
abbrev pub is_given : Option (List Token) → Bool
is_given None = false
is_given (Some path) = true

-- the rule of the path
abbrev pub rules_below : Option (List Token) → List RuleValue
rules_below None = []
rules_below (Some path) = read_rule path ∷ []

-- there is no such name, or this is the least
abbrev pub IsLeastName : (List ℕ → Type 0) → Option (List ℕ) → Type 0
IsLeastName Has None = (name : List ℕ) → ¬ Has name
IsLeastName Has (Some name) = Has name × ((other : List ℕ) → Has other → IsAtMost name other)
