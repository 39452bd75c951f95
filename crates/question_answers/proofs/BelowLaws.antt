-- The least name of which three lists of rules say what is wanted, where the third is the rule of a path or has no rules.
use Rattle.std.proofs.Common.{◌≡◌, ◌↔◌, ℕ, Bool, List, [], ◌∷◌, Option, Some, None, IsTrue, refl, sym, subst, rules}
use Rattle.derived_profiles.specs.Pattern.{read_rule}
use Rattle.names.specs.Permissions.{has, only}
use Rattle.names.specs.declared.permissions.Permission.{Permission}
use Rattle.names.specs.declared.permissions.Permission.TheVariants.{Read, Write, Link, Lock, Map, Append}
use Rattle.names.specs.declared.permissions.Perms.{Perms}
use Rattle.names.specs.declared.verdict.Verdict.TheVariants.{Allowed}
use Rattle.profile_questions.specs.Names.{ComparisonValue}
use Rattle.profile_questions.specs.Questions.{IsFound, IsPatternRule, IsShortest}
use Rattle.rule_globs.specs.Glob.{Takes}
use Rattle.rule_globs.specs.Rules.{RuleValue, holds, pattern}
use Rattle.rule_globs.specs.Tokens.{Token}
use Rattle.rule_globs.specs.Verdict.{IsVerdict}
use Rattle.question_answers.specs.Below.{IsLeastName, is_given, rules_below}
use Rattle.question_answers.specs.declared.least.Wanted.{Wanted}
use Rattle.question_answers.specs.inner.Wants.{IsWantedOf, wanted_of}

-- a rule that stands for its pattern allows what is asked of exactly the names that the pattern matches
abbrev pub PatternLaw : Type 0
PatternLaw = (rule : RuleValue) (ask : Perms) (name : List ℕ) → IsPatternRule rule ask →
    IsVerdict (rule ∷ []) name ask Allowed ↔ Takes (pattern rule) name

all_held : (path : List Token) (p : Permission) → IsTrue (has (only Read) p) → IsTrue (holds (read_rule path) p)
all_held path Read h = search rules
all_held path Write h = cc
all_held path Link h = cc
all_held path Lock h = cc
all_held path Map h = cc
all_held path Append h = cc

stands_for : (path : List Token) → IsPatternRule (read_rule path) (only Read)
stands_for path = record { allows = refl; asked = (Read, search rules); holds_all = all_held path }

module _ (law : PatternLaw) (first second third : List RuleValue) (names : List (List ℕ)) (w : Wanted) where
  abbrev compared : List RuleValue → ComparisonValue
  compared rules = record { first = first; second = second; third = rules; names = names }

  found_wanted : (below : Option (List Token)) (name : List ℕ) →
      IsFound (compared (rules_below below)) (wanted_of w (is_given below)) name → IsWantedOf below (compared (rules_below below)) w name
  found_wanted None name h = record { below = h.is_name; first = h.first; second = h.second }
  found_wanted (Some path) name h = record {
    below = (h.is_name, (law (read_rule path) (only Read) name (stands_for path)).0 h.third);
    first = h.first;
    second = h.second;
  }

  wanted_found : (below : Option (List Token)) (name : List ℕ) → IsWantedOf below (compared (rules_below below)) w name →
      IsFound (compared (rules_below below)) (wanted_of w (is_given below)) name
  wanted_found None name h = record { is_name = h.below; first = h.first; second = h.second; third = tt }
  wanted_found (Some path) name h = record {
    is_name = h.below.0;
    first = h.first;
    second = h.second;
    third = (law (read_rule path) (only Read) name (stands_for path)).1 h.below.1;
  }

  shortest_least : (below : Option (List Token)) (found : Option (List ℕ)) →
      IsShortest (compared (rules_below below)) (wanted_of w (is_given below)) found →
      IsLeastName (IsWantedOf below (compared (rules_below below)) w) found
  shortest_least below None h = λ name is. h name (wanted_found below name is)
  shortest_least below (Some least) h = (found_wanted below least h.0, λ other is. h.1 other (wanted_found below other is))

-- the same for any third rules that are those
pub least_wanted : PatternLaw → (c : ComparisonValue) (w : Wanted) (below : Option (List Token)) (restricted : Bool)
    (found : Option (List ℕ)) → c.third ≡ rules_below below → restricted ≡ is_given below → IsShortest c (wanted_of w restricted) found →
    IsLeastName (IsWantedOf below c w) found
least_wanted law c w below restricted found third given h =
    let of : List RuleValue → ComparisonValue =
    λ rules. record { first = c.first; second = c.second; third = rules; names = c.names } in
    subst (λ rules. IsLeastName (IsWantedOf below (of rules) w) found) (sym third)
    (shortest_least law c.first c.second c.third c.names w below found
    (subst (λ rules. IsShortest (of rules) (wanted_of w (is_given below)) found) third
    (subst (λ b. IsShortest c (wanted_of w b) found) given h)))

-- what is wanted of the first two lists is wanted of all three
pub found_is_wanted : PatternLaw → (c : ComparisonValue) (w : Wanted) (below : Option (List Token)) (restricted : Bool) (name : List ℕ) →
    c.third ≡ rules_below below → restricted ≡ is_given below → IsFound c (wanted_of w restricted) name ↔ IsWantedOf below c w name
found_is_wanted law c w below restricted name third given =
    let of : List RuleValue → ComparisonValue =
    λ rules. record { first = c.first; second = c.second; third = rules; names = c.names } in
    subst (λ rules. IsFound (of rules) (wanted_of w restricted) name ↔ IsWantedOf below (of rules) w name) (sym third)
    (subst (λ b. IsFound (of (rules_below below)) (wanted_of w b) name ↔ IsWantedOf below (of (rules_below below)) w name) (sym given)
    (found_wanted law c.first c.second c.third c.names w below name, wanted_found law c.first c.second c.third c.names w below name))
