-- A verdict as it is printed.
use Rattle.std.specs.Prelude.{ℕ, List, ◌++◌, codes, decimal}
use Rattle.names.specs.Permissions.{letters}
use Rattle.names.specs.declared.verdict.Verdict.{Verdict}
use Rattle.names.specs.declared.verdict.Verdict.TheVariants.{Allowed, Denied, NoRule}

abbrev pub verdict_text : Verdict → List ℕ
verdict_text Allowed = codes "allowed"
verdict_text (Denied rule) = codes "denied by rule " ++ decimal rule
verdict_text (NoRule missing) = codes "no rule for " ++ letters missing
