-- What is asked by permissions and a pattern.
use Rattle.std.specs.Prelude.{ℕ, List, Some, None, Result, Ok, Err, codes}
use Rattle.derived_profiles.specs.Pattern.{pattern_path}
use Rattle.names.specs.declared.permissions.Perms.{Perms}
use Rattle.rule_globs.specs.Tokens.{Token}
use Rattle.trace_report.specs.ReadStreams.{asked_by}

-- the path that the pattern is, or the message about it
abbrev pub path_asked : List ℕ → Result (List Token) (List ℕ)
path_asked pattern = elim (pattern_path pattern) [ None ↦ Err (codes "bad pattern") | Some path ↦ Ok path ]

-- the permissions asked for and the path, or the message about the arguments
abbrev pub asked_of : List ℕ → List ℕ → Result (Perms × List Token) (List ℕ)
asked_of perms pattern = elim (asked_by perms) [
  | None ↦ Err (codes "bad permissions")
  | Some ask ↦ elim (path_asked pattern) [ Err told ↦ Err told | Ok path ↦ Ok (ask, path) ]
]
