-- The rules that AppArmor's parser (3.0.8) adds to a profile that may be changed by the task itself, as in its compiled tables:
-- all are for owners. With a rule change_profile, or a hat or a child, there are three: two files to read, and one to write. There
-- the tables have write without append, which no letter gives; with w these rules hold append, too (our choice), which is
-- reported as wider.
use Rattle.std.specs.Prelude.{ℕ, List, [], ◌∷◌, ◌++◌, codes, Option, Some, None, nat_le, if◌then◌else◌}
use Rattle.names.specs.declared.permissions.Permission.TheVariants.{Read, Write}
use Rattle.names.specs.declared.permissions.Perms.{Perms}
use Rattle.names.specs.Permissions.{only}
use Rattle.names.specs.declared.kind.RuleKind.TheVariants.{Allow}
use Rattle.import_profile.specs.ImportedPaths.{imported_paths}
use Rattle.apparmor_rules.specs.declared.subject.AppliesTo.TheVariants.{Owners}
use Rattle.apparmor_rules.specs.SubjectRules.{SubjectRule, no_priority, read}
use Rattle.import_profile.specs.FileRules.{PlacedRule}

abbrev pub added_rule : Perms → List ℕ → SubjectRule
added_rule perms path = record {
  kind = Allow;
  applies_to = Owners;
  perms = perms;
  target = None;
  path = read (imported_paths path);
  priority = no_priority;
}

abbrev pub added_at : ℕ → Perms → List ℕ → PlacedRule
added_at place perms path = record { place = place; rule = added_rule perms path }

-- the files in which a task queries the state of AppArmor
abbrev pub queries : ℕ → List PlacedRule
queries place = added_at place (only Read) (codes "/proc/*/attr/apparmor/")
    ∷ added_at place (only Read) (codes "/sys/module/apparmor/parameters/enabled") ∷ []

-- where it requests another profile (aa_change_profile(2)), and a hat (aa_change_hat(2))
abbrev pub change_of_profile : ℕ → PlacedRule
change_of_profile place = added_at place (only Write) (codes "/proc/*/attr/{,apparmor/}{current,exec}")

abbrev pub change_of_hat : ℕ → PlacedRule
change_of_hat place = added_at place (only Write) (codes "/proc/[0-9]*/attr/{,apparmor/}current")

-- by the places of the first change_profile, and of the first hat or child
abbrev pub added_rules : Option ℕ → Option ℕ → List PlacedRule
added_rules None None = []
added_rules (Some change) None = queries change ++ (change_of_profile change ∷ [])
added_rules None (Some hat) = queries hat ++ (change_of_hat hat ∷ [])
added_rules (Some change) (Some hat) =
    queries (if nat_le change hat then change else hat) ++ (change_of_profile change ∷ change_of_hat hat ∷ [])
