-- The least hits of a name, for each permission (apparmor.d(5), "Rule Qualifiers").
use Rattle.std.specs.Prelude.{ℕ, List}
use Rattle.names.specs.declared.permissions.Permission.{Permission}
use Rattle.rule_profile.specs.Profile.{RuleValue}
use Rattle.rule_globs.specs.Verdict.{Hits}
use Rattle.names.specs.Least.{IsLeastOrNone, hits_of}
use Rattle.names.specs.declared.kind.RuleKind.TheVariants.{Allow, Deny}
use Rattle.names.specs.declared.record.Record.{Record}

-- each number of the record is the least of its hits of the name
abbrev pub IsLeastRecord : List RuleValue → List ℕ → Record → Type 0
IsLeastRecord rules name r = (p : Permission) →
    IsLeastOrNone (Hits rules Allow p name) (hits_of r p).allow × IsLeastOrNone (Hits rules Deny p name) (hits_of r p).deny
