-- The verdict of a record, computed: the least deny number among the asked permissions; else those that have no allow number; else
-- allowed (apparmor.d(5), "Rule Qualifiers"). A law says that it is the one verdict that `IsTold` allows.
use Rattle.std.specs.Prelude.{ℕ, ◌==◌, ◌&&◌, ◌||◌, nat_lt, List, [], ◌∷◌, if◌then◌else◌}
use Rattle.std.specs.List.{list_any}
use Rattle.names.specs.Least.{hits_of}
use Rattle.names.specs.declared.record.Record.{Record}
use Rattle.names.specs.Permissions.{has, set_of, all_permissions}
use Rattle.names.specs.declared.permissions.Permission.{Permission}
use Rattle.names.specs.declared.permissions.Perms.{Perms}
use Rattle.names.specs.declared.verdict.Verdict.{Verdict}
use Rattle.names.specs.declared.verdict.Verdict.TheVariants.{Denied, NoRule, Allowed}

-- the lesser of two rule numbers, where 0 means no rule
abbrev pub lesser : ℕ → ℕ → ℕ
lesser one other = if one == 0 then other else (if (other == 0) || nat_lt one other then one else other)

-- the least deny number of those of these permissions that are asked, 0 for none
abbrev pub least_deny : Record → Perms → List Permission → ℕ
least_deny r ask [] = 0
least_deny r ask (p ∷ ps) = if has ask p then lesser (hits_of r p).deny (least_deny r ask ps) else least_deny r ask ps

-- what is asked and has no allow number
abbrev pub missing_in : Record → Perms → Perms
missing_in r ask = set_of (λ p. has ask p && ((hits_of r p).allow == 0))

abbrev pub told_by : ℕ → Perms → Verdict
told_by deny missing =
    if deny == 0
    then (if list_any (has missing) all_permissions then NoRule missing else Allowed)
    else Denied deny

unfoldable pub told : Record → Perms → Verdict
told r ask = told_by (least_deny r ask all_permissions) (missing_in r ask)
