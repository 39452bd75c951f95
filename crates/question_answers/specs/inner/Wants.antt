-- What is wanted of a name by lists of rules.
use Rattle.std.specs.Prelude.{ℕ, Bool, true, false, List, Option}
use Rattle.names.specs.Permissions.{only}
use Rattle.names.specs.declared.permissions.Permission.TheVariants.{Read}
use Rattle.names.specs.declared.permissions.Perms.{Perms}
use Rattle.profile_questions.specs.Names.{ComparisonValue}
use Rattle.profile_questions.specs.Questions.{IsAnswer}
use Rattle.profile_questions.specs.declared.answer.Answer.{Answer}
use Rattle.profile_questions.specs.declared.answer.Answer.TheVariants as answer
use Rattle.profile_questions.specs.declared.answer.Answers.{Answers}
use Rattle.rule_globs.specs.Tokens.{Token}
use Rattle.question_answers.specs.Below.{IsBelow}
use Rattle.question_answers.specs.declared.least.Wanted.{Wanted}
use Rattle.question_answers.specs.declared.quantifier.Quantifier.{Quantifier}
use Rattle.question_answers.specs.declared.quantifier.Quantifier.TheVariants.{Any, All}
use Rattle.question_answers.specs.declared.quantifier.Witnesses.{Witnesses}
use Rattle.question_answers.specs.declared.quantifier.Witnesses.TheVariants.{Least}
use Rattle.question_answers.specs.declared.side.Side.{Side}
use Rattle.question_answers.specs.declared.side.Side.TheVariants.{Old, New}

-- the name is one that the question is about, and the first two lists of rules say of it what is wanted
pub record IsWantedOf (path : Option (List Token)) (c : ComparisonValue) (wanted : Wanted) (name : List ℕ) : Type 0 where
  pub below : IsBelow path name
  pub first : IsAnswer wanted.first c.first name
  pub second : IsAnswer wanted.second c.second name

-- what is wanted by three lists of rules, the third of which may restrict names
abbrev pub wanted_of : Wanted → Bool → Answers
wanted_of w true = record { first = w.first; second = w.second; third = answer.Allowed (only Read) }
wanted_of w false = record { first = w.first; second = w.second; third = answer.Any }

-- what the rules are to say of a name that is wanted
abbrev pub wanted_by : Quantifier → Perms → Answer
wanted_by (Any witnesses) ask = answer.Allowed ask
wanted_by All ask = answer.Refused ask

-- which of the names that are wanted are listed
abbrev pub listed_by : Quantifier → Witnesses
listed_by (Any witnesses) = witnesses
listed_by All = Least

-- that this side alone allows what is asked
abbrev pub alone_by : Side → Perms → Wanted
alone_by Old ask = record { first = answer.Allowed ask; second = answer.Refused ask }
alone_by New ask = record { first = answer.Refused ask; second = answer.Allowed ask }
