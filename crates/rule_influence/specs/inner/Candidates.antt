-- Which rule stands in for another, by the least hits of the rules and of the reversed rules.
use Rattle.std.specs.Prelude.{◌≡◌, ◌≢◌, ◌==◌, ◌&&◌, ◌||◌, ℕ, ◌+◌, ◌-◌, ◌<◌, Bool, not, List, length, nat_lt}
use Rattle.std.specs.Prelude.{if◌then◌else◌}
use Rattle.names.specs.declared.permissions.Permission.{Permission}
use Rattle.names.specs.declared.permissions.Perms.{Perms}
use Rattle.names.specs.declared.kind.RuleKind.{RuleKind}
use Rattle.names.specs.declared.kind.RuleKind.TheVariants.{Allow, Deny}
use Rattle.names.specs.declared.record.LeastHits.{LeastHits}
use Rattle.names.specs.Least.{hits_of}
use Rattle.names.specs.Permissions.{has}
use Rattle.profile_questions.specs.declared.comparison.Records.{Records}
use Rattle.rule_globs.specs.Glob.{Takes}
use Rattle.rule_globs.specs.Rules.{RuleValue, holds, pattern}
use Rattle.rule_globs.specs.Verdict.{IsRuleAt}
use Rattle.rule_profile.specs.Rules.{rule_value}
use Rattle.rule_influence.specs.declared.candidates.Case.{Case}
use Rattle.rule_influence.specs.declared.substitutes.IdleCase.{IdleCase}

-- number is none of a set of numbers from 1 to count, which is given by its least number and by the least when they are counted from
-- the other end
abbrev pub is_outside : ℕ → ℕ → ℕ → ℕ → Bool
is_outside count number first reversed =
    (reversed == 0 || first == 0) || (nat_lt number first || nat_lt (count + 1 - reversed) number)

-- the first of them or, where that is number, the last; 0 where that is number, too
abbrev pub other_end : ℕ → ℕ → ℕ → ℕ
other_end number first last = if not (first == number) then first else if not (last == number) then last else 0

abbrev pub other_hit : ℕ → ℕ → ℕ → ℕ → ℕ
other_hit count number first reversed =
    if is_outside count number first reversed then 0 else other_end number first (count + 1 - reversed)

-- the stand-in for a rule where it hits, 0 where there is none
abbrev pub stand_in : ℕ → ℕ → RuleKind → LeastHits → LeastHits → ℕ
stand_in count number Allow hits reversed = if hits.deny == 0 then other_hit count number hits.allow reversed.allow else 0
stand_in count number Deny hits reversed = if hits.allow == 0 then 0 else other_hit count number hits.deny reversed.deny

-- the same for a rule with this number if p is one of the permissions and the rule holds it
abbrev pub candidate : ℕ → ℕ → RuleValue → Perms → Records → Permission → ℕ
candidate count number rule perms records p =
    if has perms p && holds rule p
    then stand_in count number rule.kind (hits_of records.first p) (hits_of records.second p) else 0

-- the rule of an idle case
pub record IsCaseOf (rules : List RuleValue) (idle : IdleCase) (case : Case) : Type 0 where
  pub count : case.count ≡ length rules
  pub few : case.count < 65536
  pub number : case.number ≡ idle.rule
  pub rule : IsRuleAt rules idle.rule (rule_value case.rule.now)
  pub perms : case.perms ≡ idle.perms

-- the rule stands in where the case's rule hits
abbrev pub IsCandidate : Case → Records → ℕ → Type 0
IsCandidate case records n =
    (p : Permission) × (candidate case.count case.number (rule_value case.rule.now) case.perms records p ≡ n) × (n ≢ 0)

-- and the case's rule matches the name
abbrev pub IsAtName : Case → Records → List ℕ → ℕ → Type 0
IsAtName case records name n = IsCandidate case records n × Takes (pattern (rule_value case.rule.now)) name

-- the same by the number of the case's rule
abbrev pub IsCandidateFor : List RuleValue → IdleCase → Records → ℕ → Type 0
IsCandidateFor rules idle records n = (rule : RuleValue) × IsRuleAt rules idle.rule rule
    × ((p : Permission) × (candidate (length rules) idle.rule rule idle.perms records p ≡ n) × (n ≢ 0))

abbrev pub IsAtNameFor : List RuleValue → IdleCase → Records → List ℕ → ℕ → Type 0
IsAtNameFor rules idle records name n = (rule : RuleValue) × IsRuleAt rules idle.rule rule
    × ((p : Permission) × (candidate (length rules) idle.rule rule idle.perms records p ≡ n) × (n ≢ 0)) × Takes (pattern rule) name
