-- What holds of each rule that AppArmor adds.
use Rattle.std.proofs.Common.{◌≡◌, ℕ, true, refl, List, [], ◌∷◌, ◌++◌, Option, Some, None, codes, cond}
use Rattle.std.specs.Prelude.{nat_le}
use Rattle.names.specs.declared.permissions.Permission.TheVariants.{Read, Write}
use Rattle.names.specs.declared.permissions.Perms.{Perms}
use Rattle.names.specs.Permissions.{only}
use Rattle.rule_globs.specs.Each.{Each}
use Rattle.apparmor_rules.specs.Restatement.{has_some}
use Rattle.import_profile.specs.AddedRules.{added_at, added_rules, change_of_hat, change_of_profile, queries}
use Rattle.import_profile.specs.FileRules.{PlacedRule}

pub each_of_both : {A : Type 0} (P : A → Type 0) (xs ys : List A) → Each P xs → Each P ys → Each P (xs ++ ys)
each_of_both P [] ys h g = g
each_of_both P (x ∷ xs) ys h g = (h.0, each_of_both P xs ys h.1 g)

module _ (P : PlacedRule → Type 0)
    (each : (place : ℕ) (perms : Perms) (path : List ℕ) → has_some perms ≡ true → P (added_at place perms path)) where
  of_queries : (place : ℕ) → Each P (queries place)
  of_queries place = (
    each place (only Read) (codes "/proc/*/attr/apparmor/") refl,
    (each place (only Read) (codes "/sys/module/apparmor/parameters/enabled") refl, tt),
  )

  of_change : (place : ℕ) → P (change_of_profile place)
  of_change place = each place (only Write) (codes "/proc/*/attr/{,apparmor/}{current,exec}") refl

  of_hat : (place : ℕ) → P (change_of_hat place)
  of_hat place = each place (only Write) (codes "/proc/[0-9]*/attr/{,apparmor/}current") refl

  pub of_each_added : (change hat : Option ℕ) → Each P (added_rules change hat)
  of_each_added None None = tt
  of_each_added (Some change) None = each_of_both P (queries change) (change_of_profile change ∷ []) (of_queries change)
      (of_change change, tt)
  of_each_added None (Some hat) = each_of_both P (queries hat) (change_of_hat hat ∷ []) (of_queries hat) (of_hat hat, tt)
  of_each_added (Some change) (Some hat) =
      let first = cond (nat_le change hat) change hat in
      each_of_both P (queries first) (change_of_profile change ∷ change_of_hat hat ∷ []) (of_queries first)
      (of_change change, (of_hat hat, tt))
