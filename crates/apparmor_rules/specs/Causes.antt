-- Why a change is reported.
use Rattle.std.specs.Prelude.{ℕ, List, Contains, IsTrue}
use Rattle.names.specs.declared.permissions.Permission.{Permission}
use Rattle.rule_globs.specs.Rules.{RuleValue, holds}
use Rattle.apparmor_rules.specs.declared.subject.Subject.{Subject}
use Rattle.apparmor_rules.specs.SecondJudge.{IsTargetMet, SaysOf, TakesName}
use Rattle.apparmor_rules.specs.Restatement.{restated}
use Rattle.apparmor_rules.specs.SubjectRules.{SubjectRule, Unknown}

-- The rule says p to the subject, of each name that its path matches, if the target is met; nothing that it is restated as
-- holds p.
abbrev pub LosesSome : Subject → Subject → SubjectRule → Type 0
LosesSome chosen subject rule =
    (p : Permission)
    × ((unknown : Unknown) (name : List ℕ) → IsTargetMet unknown rule.target → TakesName unknown rule.path name
    → SaysOf unknown subject p name rule)
    × ((value : RuleValue) → Contains (restated chosen rule) value → ¬ (IsTrue (holds value p)))

-- The rule says p to the subject of no name; all that it is restated as holds p.
abbrev pub GainsSome : Subject → Subject → SubjectRule → Type 0
GainsSome chosen subject rule =
    (p : Permission)
    × ((unknown : Unknown) (name : List ℕ) → ¬ (SaysOf unknown subject p name rule))
    × ((value : RuleValue) → Contains (restated chosen rule) value → IsTrue (holds value p))
