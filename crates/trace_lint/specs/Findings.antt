-- What is found about the rules of a profile.
use Rattle.std.specs.Prelude.{◌≡◌, ℕ, List, Option, find, map, option_map}
use Rattle.std.specs.List.{All}
use Rattle.names.specs.declared.permissions.Perms.{Perms}
use Rattle.rule_globs.specs.Rules.{RuleValue}
use Rattle.rule_influence.specs.StandIns.{AreTheStandIns}
use Rattle.trace_lint.specs.Parts.{case_of, decided_by, decides_none_of, decides_nothing, idle_parts}
use Rattle.trace_lint.specs.declared.findings.Idle.{Idle}
use Rattle.trace_lint.specs.declared.findings.Part.{Part}

-- a part of a rule that decides nothing
pub record FindingValue : Type 0 where
  pub part : Part
  -- the rules that do its work
  pub stand_ins : List ℕ
  -- the first of them that decides none of the permissions that the part is about
  pub idle : Option Idle

-- the rule with this number, and whether it decides nothing at all
abbrev pub idle_rule : List Perms → ℕ → Idle
idle_rule decided n = record { rule = n; wholly = decides_nothing (decided_by decided n) }

-- the first of these rules that decides none of these permissions
abbrev pub first_idle : List Perms → Perms → List ℕ → Option Idle
first_idle decided perms numbers = option_map (idle_rule decided) (find (λ n. decides_none_of perms (decided_by decided n)) numbers)

-- all parts that decide nothing, in order, each with its stand-ins and with the first of these that decides nothing of it either
pub record AreFindings (rules : List RuleValue) (decided : List Perms) (findings : List FindingValue) : Type 0 where
  pub parts : map (λ f. f.part) findings ≡ idle_parts rules decided
  pub stand_ins : All (λ f. AreTheStandIns rules (case_of rules f.part) f.stand_ins) findings
  pub idle : All (λ f. f.idle ≡ first_idle decided (case_of rules f.part).perms f.stand_ins) findings
