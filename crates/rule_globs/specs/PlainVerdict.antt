-- Matching and the verdict computed in the plainest way, next to their definitions. Laws say that they are the same.
use Rattle.std.specs.Prelude.{ℕ, ◌+◌, Bool, true, false, ◌&&◌, ◌||◌, not, List, [], ◌∷◌, map, position, Some, None, if◌then◌else◌}
use Rattle.std.specs.List.{list_all, list_any}
use Rattle.names.specs.declared.permissions.Permission.{Permission}
use Rattle.names.specs.declared.permissions.Perms.{Perms}
use Rattle.names.specs.Permissions.{has, set_of, all_permissions}
use Rattle.rule_globs.specs.Glob.{Glob, empty, one, run, cat, none, alt, fits}
use Rattle.rule_globs.specs.Rules.{RuleValue, pattern, holds}
use Rattle.names.specs.declared.kind.RuleKind.{RuleKind}
use Rattle.names.specs.declared.kind.RuleKind.TheVariants.{Allow, Deny}
use Rattle.names.specs.declared.verdict.Verdict.{Verdict}
use Rattle.names.specs.declared.verdict.Verdict.TheVariants.{Denied, NoRule, Allowed}

-- each way to cut a list in two
abbrev pub cuts : List ℕ → List (List ℕ × List ℕ)
cuts [] = ([], []) ∷ []
cuts (b ∷ bytes) = ([], b ∷ bytes) ∷ map (λ cut. (b ∷ cut.0, cut.1)) (cuts bytes)

-- whether the pattern matches the bytes, by trying each cut
abbrev pub takes : Glob → List ℕ → Bool
takes empty [] = true
takes empty (b ∷ bytes) = false
takes (one set) [] = false
takes (one set) (b ∷ []) = fits set b
takes (one set) (b ∷ c ∷ bytes) = false
takes (run set) bytes = list_all (fits set) bytes
takes (cat first second) bytes = list_any (λ cut. takes first cut.0 && takes second cut.1) (cuts bytes)
takes none bytes = false
takes (alt first second) bytes = takes first bytes || takes second bytes

abbrev pub is_deny : RuleKind → Bool
is_deny Allow = false
is_deny Deny = true

-- the rule denies something that is asked for the name
abbrev pub denies : List ℕ → Perms → RuleValue → Bool
denies name ask rule =
    is_deny rule.kind && list_any (λ p. has ask p && holds rule p) all_permissions && takes (pattern rule) name

-- the rule allows p to the name
abbrev pub allows : List ℕ → Permission → RuleValue → Bool
allows name p rule = not (is_deny rule.kind) && holds rule p && takes (pattern rule) name

-- what is asked and allowed by no rule
abbrev pub missing : List RuleValue → List ℕ → Perms → Perms
missing rules name ask = set_of (λ p. has ask p && not (list_any (allows name p) rules))

-- the first rule that denies something; else what is missing, if anything is
unfoldable pub verdict : List RuleValue → List ℕ → Perms → Verdict
verdict rules name ask = elim (position (denies name ask) rules) [
  | Some before ↦ Denied (before + 1)
  | None ↦
      if list_any (has (missing rules name ask)) all_permissions then NoRule (missing rules name ask) else Allowed
]
