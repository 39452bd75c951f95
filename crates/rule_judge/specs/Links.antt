-- The verdict on a hard link: the new name must be one to link to, and may not allow more than the old name does, link
-- itself aside (apparmor.d(5), "Access Modes Details", link mode).
use Rattle.std.specs.Prelude.{◌≢◌, ◌&&◌, ◌++◌, ℕ, Bool, not, true, false, List, codes, IsTrue, if◌then◌else◌}
use Rattle.std.specs.List.{list_any}
use Rattle.names.specs.declared.permissions.Permission.{Permission}
use Rattle.names.specs.declared.permissions.Permission.TheVariants.{Link}
use Rattle.names.specs.declared.permissions.Perms.{Perms}
use Rattle.names.specs.Permissions.{has, set_of, only, with_permission, all_permissions, letters}
use Rattle.rule_profile.specs.Profile.{RuleValue}
use Rattle.rule_globs.specs.PlainVerdict.{verdict}
use Rattle.names.specs.VerdictText.{verdict_text}
use Rattle.rule_judge.specs.declared.links.LinkVerdict.{LinkVerdict}
use Rattle.rule_judge.specs.declared.links.LinkVerdict.TheVariants.{Refused, Wider, Fine}
use Rattle.names.specs.declared.verdict.Verdict.{Verdict}
use Rattle.names.specs.declared.verdict.Verdict.TheVariants.{Denied, NoRule, Allowed}

abbrev pub is_allowed : Verdict → Bool
is_allowed Allowed = true
is_allowed (Denied rule) = false
is_allowed (NoRule missing) = false

-- the permissions that a name is allowed, each asked by itself
abbrev pub allowed : List RuleValue → List ℕ → Perms
allowed rules name = set_of (λ p. is_allowed (verdict rules name (only p)))

-- what the new name is allowed and the old one isn't; the old one needs no link
abbrev pub extra : Perms → Perms → Perms
extra old new = set_of (λ p. has new p && not (has (with_permission old Link) p))

abbrev pub widening : Perms → LinkVerdict
widening perms = if list_any (has perms) all_permissions then Wider perms else Fine

-- the new name's verdict where that is a refusal; else what it is allowed beyond the old name, if anything is
abbrev pub link_verdict : Perms → Perms → Verdict → LinkVerdict
link_verdict old new (Denied rule) = Refused (Denied rule)
link_verdict old new (NoRule missing) = Refused (NoRule missing)
link_verdict old new Allowed = widening (extra old new)

abbrev pub link_verdict_text : LinkVerdict → List ℕ
link_verdict_text (Refused v) = verdict_text v
link_verdict_text (Wider perms) = codes "wider by " ++ letters perms
link_verdict_text Fine = codes "allowed"

-- every permission but link that the new name is allowed, the old one is allowed, too
abbrev pub IsSubset : Perms → Perms → Type 0
IsSubset old new = (p : Permission) → p ≢ Link → IsTrue (has new p) → IsTrue (has old p)
