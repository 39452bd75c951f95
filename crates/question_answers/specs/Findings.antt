-- What is found among the names that a path matches.
use Rattle.std.specs.Prelude.{ℕ, List, IsTrue}
use Rattle.names.specs.Permissions.{has}
use Rattle.names.specs.declared.kind.RuleKind.TheVariants.{Allow}
use Rattle.names.specs.declared.permissions.Permission.{Permission}
use Rattle.names.specs.declared.permissions.Perms.{Perms}
use Rattle.names.specs.declared.verdict.Verdict.TheVariants.{Allowed}
use Rattle.rule_globs.specs.Rules.{RuleValue}
use Rattle.rule_globs.specs.Tokens.{Token}
use Rattle.rule_globs.specs.Verdict.{Hits, IsLeast, IsVerdict}
use Rattle.question_answers.specs.Below.{IsTaken}
use Rattle.question_answers.specs.LeastNames.{AreLeast, AreLeastNames, listed}
use Rattle.question_answers.specs.declared.search.Finding as declared
use Rattle.question_answers.specs.declared.search.Finding.TheVariants as kept
use Rattle.question_answers.specs.declared.quantifier.Quantifier.{Quantifier}
use Rattle.question_answers.specs.declared.quantifier.Quantifier.TheVariants.{Any, All}
use Rattle.question_answers.specs.declared.quantifier.Witnesses.TheVariants.{EachRule, Least}

-- all that is asked is allowed to the name, or, where that is to be so for each name, not all of it
abbrev pub IsJudgedAs : Quantifier → List RuleValue → Perms → List ℕ → Type 0
IsJudgedAs (Any witnesses) rules ask name = IsVerdict rules name ask Allowed
IsJudgedAs All rules ask name = ¬ (IsVerdict rules name ask Allowed)

abbrev pub IsWanted : Quantifier → List RuleValue → List Token → Perms → List ℕ → Type 0
IsWanted quantifier rules path ask name = IsTaken path name × IsJudgedAs quantifier rules ask name

-- of the rules that allow the name something that is asked, n is the first
abbrev pub IsFirstOf : List RuleValue → Perms → List ℕ → ℕ → Type 0
IsFirstOf rules ask name n = (p : Permission) × IsTrue (has ask p) × IsLeast (Hits rules Allow p name) n

-- a name that is wanted, of which this rule is the first
abbrev pub IsWantedBy : List RuleValue → List Token → Perms → ℕ → List ℕ → Type 0
IsWantedBy rules path ask n name = IsWanted (Any EachRule) rules path ask name × IsFirstOf rules ask name n

-- the names that are listed: the least for each first rule, or the least of all
abbrev pub AreWitnesses : Quantifier → List RuleValue → List Token → Perms → List (List ℕ) → Type 0
AreWitnesses (Any EachRule) rules path ask names = AreLeastNames (IsWantedBy rules path ask) names
AreWitnesses (Any Least) rules path ask names = AreLeast (IsWanted (Any Least) rules path ask) names
AreWitnesses All rules path ask names = AreLeast (IsWanted All rules path ask) names

-- what is found
pub data Finding : Type 0 where
  -- no name is matched
  no_name : Finding
  -- those that are listed, none if none is wanted
  found : List (List ℕ) → Finding

abbrev pub IsFinding : Quantifier → List RuleValue → List Token → Perms → Finding → Type 0
IsFinding quantifier rules path ask no_name = (name : List ℕ) → ¬ (IsTaken path name)
IsFinding quantifier rules path ask (found names) =
    ((name : List ℕ) × IsTaken path name) × AreWitnesses quantifier rules path ask names

-- the same as it is kept
abbrev pub finding_value : declared.Finding → Finding
finding_value kept.NoName = no_name
finding_value (kept.Names names) = found (listed names.items)
