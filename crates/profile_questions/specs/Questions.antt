-- Questions about all names, by the verdicts of rules.
use Rattle.std.specs.Prelude.{◌≡◌, ℕ, IsTrue, List, Option, Some, None, Vec}
use Rattle.std.specs.declared.alloc.Global.{Global}
use Rattle.names.specs.Paths.{IsName}
use Rattle.names.specs.Permissions.{has}
use Rattle.names.specs.Records.{IsTold}
use Rattle.names.specs.declared.kind.RuleKind.TheVariants.{Allow}
use Rattle.names.specs.declared.permissions.Permission.{Permission}
use Rattle.names.specs.declared.permissions.Perms.{Perms}
use Rattle.names.specs.declared.record.Record.{Record}
use Rattle.names.specs.declared.verdict.Verdict.TheVariants.{Allowed}
use Rattle.rule_globs.specs.Rules.{RuleValue, holds}
use Rattle.rule_globs.specs.Verdict.{IsVerdict}
use Rattle.automaton_search.specs.Order.{IsAtMost}
use Rattle.profile_questions.specs.declared.answer.Answer.{Answer}
use Rattle.profile_questions.specs.declared.answer.Answer.TheVariants as answer
use Rattle.profile_questions.specs.declared.answer.Answers.{Answers}
use Rattle.profile_questions.specs.Names.{ComparisonValue}

-- the rules say of the name what is wanted
abbrev pub IsAnswer : Answer → List RuleValue → List ℕ → Type 0
IsAnswer answer.Any rules name = Unit {0}
IsAnswer (answer.Allowed ask) rules name = IsVerdict rules name ask Allowed
IsAnswer (answer.Refused ask) rules name = ¬ (IsVerdict rules name ask Allowed)

-- a record of least hits says so of the names that have these hits
abbrev pub IsToldAs : Answer → Record → Type 0
IsToldAs answer.Any r = Unit {0}
IsToldAs (answer.Allowed ask) r = IsTold r ask Allowed
IsToldAs (answer.Refused ask) r = ¬ (IsTold r ask Allowed)

-- a name of which all three say what is wanted
pub record IsFound (c : ComparisonValue) (answers : Answers) (name : List ℕ) : Type 0 where
  pub is_name : IsName name
  pub first : IsAnswer answers.first c.first name
  pub second : IsAnswer answers.second c.second name
  pub third : IsAnswer answers.third c.third name

-- there is no such name, or this is the least
abbrev pub IsShortest : ComparisonValue → Answers → Option (List ℕ) → Type 0
IsShortest c answers None = (name : List ℕ) → ¬ IsFound c answers name
IsShortest c answers (Some name) = IsFound c answers name × ((other : List ℕ) → IsFound c answers other → IsAtMost name other)

abbrev pub found_name : Option (Vec ℕ Global) → Option (List ℕ)
found_name None = None
found_name (Some name) = Some name.items

-- A rule that stands for its pattern where this is asked: something is, and the rule allows all of it. Alone it allows this of the
-- names that the pattern matches, and of no other (the law `pattern_rules_allow_what_they_take`).
pub record IsPatternRule (rule : RuleValue) (ask : Perms) : Type 0 where
  pub allows : rule.kind ≡ Allow
  pub asked : (p : Permission) × IsTrue (has ask p)
  pub holds_all : (p : Permission) → IsTrue (has ask p) → IsTrue (holds rule p)
