-- What a rule changes, by its causes.
use Rattle.std.proofs.Common.{◌≡◌, ◌⊎◌, Bool, true, false, not, ◌&&◌, if◌then◌else◌, inl, inr, refl, sym, true≢false}
use Rattle.names.specs.declared.permissions.Perms.{Perms}
use Rattle.names.specs.Permissions.{has}
use Rattle.names.specs.laws.PermissionSets.{one_found}
use Rattle.apparmor_rules.specs.declared.effect.Extent.{Extent}
use Rattle.apparmor_rules.specs.declared.effect.Extent.TheVariants.{Exact}
use Rattle.apparmor_rules.specs.declared.shape.RuleShape.{RuleShape}
use Rattle.apparmor_rules.specs.declared.subject.Subject.{Subject}
use Rattle.apparmor_rules.specs.Changes.{change, for_everybody, gained, lost, qualifier_alone}
use Rattle.apparmor_rules.specs.Restatement.{can_be_said, has_some, loses_link, restated_perms}
use Rattle.apparmor_rules.specs.Subjects.{applies_to}
use Rattle.apparmor_rules.specs.laws.RestatedPerms.{held_before, some_held}

some_before : (perms : Perms) (has_target : Bool) → has_some (restated_perms perms has_target) ≡ true → has_some perms ≡ true
some_before perms has_target left =
    let some = one_found (has (restated_perms perms has_target)) left in
    some_held perms some.0 (held_before perms has_target some.0 some.1)

module _ (gain loss : Extent) where
  -- by whether the rule applies to the chosen subject, was read, has a permission left, applies to the subject, has a permission
  -- at all, and loses link
  abbrev told : Bool → Bool → Bool → Bool → Bool → Bool → Extent
  told chosen read left applies some link =
      if chosen && read && left
      then (if not applies then gain else if link then loss else Exact)
      else (if applies && some then loss else Exact)

  parts : (chosen read left applies some link : Bool) → (left ≡ true → some ≡ true) →
      (told chosen read left applies some link ≡ Exact)
      ⊎ ((told chosen read left applies some link ≡ told chosen true some applies some false)
      ⊎ (told chosen read left applies some link ≡ told true read left true some link))
  parts false read left applies some link before = inr (inl refl)
  parts true false left true some link before = inr (inr refl)
  parts true false left false some link before = inl refl
  parts true true false true some link before = inr (inr refl)
  parts true true false false some link before = inl refl
  parts true true true true some link before = inr (inr refl)
  parts true true true false true link before = inr (inl refl)
  parts true true true false false link before = absurd (true≢false (sym (before refl)))

pub told_in_parts : (chosen subject : Subject) (shape : RuleShape) →
    (change chosen subject shape ≡ Exact)
    ⊎ ((change chosen subject shape ≡ change chosen subject (qualifier_alone shape))
    ⊎ (change chosen subject shape ≡ change chosen subject (for_everybody shape)))
told_in_parts chosen subject shape =
    parts (gained shape.kind) (lost shape.kind) (applies_to shape.applies_to chosen) (can_be_said shape)
    (has_some (restated_perms shape.perms shape.has_target)) (applies_to shape.applies_to subject) (has_some shape.perms)
    (loses_link shape) (some_before shape.perms shape.has_target)
