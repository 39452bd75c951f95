-- The cases of the parts before the index.
use Rattle.std.proofs.Common.{◌≡◌, map, take}
use Rattle.rule_profile.specs.Profile.{profile_value}
use Rattle.trace_lint.specs.Parts.{case_of}
use Rattle.trace_lint.proofs.parts.cases_of.Given as goal

abbrev pub invariant-loop-part : goal.invariant-loop-part
invariant-loop-part l = l.cases.items ≡ map (case_of (profile_value l.profile).rules) (take l.part-index l.parts)
