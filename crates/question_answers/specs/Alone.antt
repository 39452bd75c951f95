-- What one of two profiles alone allows.
use Rattle.std.specs.Prelude.{ℕ, List, Option}
use Rattle.names.specs.declared.permissions.Permission.{Permission}
use Rattle.rule_explain.specs.Reasons.{IsReason}
use Rattle.rule_explain.specs.declared.reason.Reason.{Reason}
use Rattle.rule_globs.specs.Rules.{RuleValue}
use Rattle.rule_globs.specs.Tokens.{Token}
use Rattle.rule_globs.specs.Verdict.{IsAllowed}
use Rattle.question_answers.specs.Below.{IsBelow}
use Rattle.question_answers.specs.LeastNames.{AreLeast, AreLeastNames}
use Rattle.question_answers.specs.declared.quantifier.Witnesses.{Witnesses}
use Rattle.question_answers.specs.declared.quantifier.Witnesses.TheVariants.{EachRule, Least}
use Rattle.question_answers.specs.declared.side.Side.{Side}
use Rattle.question_answers.specs.declared.side.Side.TheVariants.{Old, New}

-- p is allowed by this side alone
abbrev pub AllowsAlone : Side → List RuleValue → List RuleValue → Permission → List ℕ → Type 0
AllowsAlone Old old new p name = IsAllowed old name p × ¬ (IsAllowed new name p)
AllowsAlone New old new p name = IsAllowed new name p × ¬ (IsAllowed old name p)

-- a permission that one side alone allows to a name
abbrev pub IsDifference : Option (List Token) → List RuleValue → List RuleValue → Permission → Side → List ℕ → Type 0
IsDifference below old new p side name = IsBelow below name × AllowsAlone side old new p name

-- the same with these reasons, by the old rules and by the new ones
abbrev pub IsDifferenceBy : Option (List Token) → List RuleValue → List RuleValue → Permission → Side → Reason × Reason → List ℕ → Type 0
IsDifferenceBy below old new p side reasons name =
    IsDifference below old new p side name × IsReason old name p reasons.0 × IsReason new name p reasons.1

-- the names that are listed: the least for each pair of reasons, or the least of all
abbrev pub AreAlone : Witnesses → Option (List Token) → List RuleValue → List RuleValue → Permission → Side → List (List ℕ) → Type 0
AreAlone EachRule below old new p side names = AreLeastNames (IsDifferenceBy below old new p side) names
AreAlone Least below old new p side names = AreLeast (IsDifference below old new p side) names
