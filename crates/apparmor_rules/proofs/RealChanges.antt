-- A change that is reported has a cause: a permission that is lost, or one that is gained.
use Rattle.std.proofs.Common.{◌≡◌, true, false, ◌&&◌, ⊎_elim, IsTrue, is_some, sym, ap, ◌∙◌, subst, true≢false}
use Rattle.std.specs.List.{Contains}
use Rattle.std.proofs.lemmas.Bool.{and_parts, cases_Bool}
use Rattle.names.specs.declared.permissions.Permission.{Permission}
use Rattle.names.specs.declared.permissions.Permission.TheVariants.{Link}
use Rattle.names.specs.Permissions.{has, held}
use Rattle.names.specs.laws.PermissionSets.{one_found}
use Rattle.rule_globs.specs.Rules.{RuleValue, holds}
use Rattle.apparmor_rules.specs.declared.subject.Subject.{Subject}
use Rattle.apparmor_rules.specs.Changes.{change, gained, lost}
use Rattle.apparmor_rules.specs.Causes.{GainsSome, LosesSome}
use Rattle.apparmor_rules.specs.Restatement.{can_be_said, has_some, is_restated, loses_link, restated, restated_perms, shape_of}
use Rattle.apparmor_rules.specs.SubjectRules.{SubjectRule}
use Rattle.apparmor_rules.specs.Subjects.{applies_to}
use Rattle.apparmor_rules.proofs.ChangeKinds.{is_lost, lost_is_gained, never_gained}
use Rattle.apparmor_rules.specs.laws.RestatedPerms.{held_by_letters, held_link, letter_held, letter_restated, link_stays_out}
use Rattle.apparmor_rules.proofs.RestatedRules.{change_if, gain_if, made, restated_if}
use Rattle.apparmor_rules.proofs.SomeElements.{nothing_in}

module _ (chosen subject : Subject) (rule : SubjectRule) where
  -- each rule that it is restated as holds these permissions
  held_so : (value : RuleValue) (p : Permission) → Contains (restated chosen rule) value →
      has (restated_perms (held rule.perms) (is_some rule.target)) p ≡ holds value p
  held_so value p here = sym (ap (λ s. has s p) (held_by_letters rule.perms (is_some rule.target)))
      ∙ ap (λ v. holds v p) (made chosen subject rule value here).1.2

  not_restated : is_restated chosen (shape_of rule) ≡ false → (value : RuleValue) → Contains (restated chosen rule) value → ⊥
  not_restated isnt value here = nothing_in value (subst (λ b. Contains (restated_if chosen subject rule b) value) isnt here)

  link_lost : IsTrue (applies_to rule.applies_to subject) → loses_link (shape_of rule) ≡ true → LosesSome chosen subject rule
  link_lost applies loses =
      let both = and_parts (is_some rule.target) (has rule.perms Link) loses in (
        Link,
        λ unknown name met takes. (applies, (held_link rule.perms ∙ both.1, λ e. met), takes),
        λ value here holds. link_stays_out (held rule.perms)
            (subst (λ b. IsTrue (has (restated_perms (held rule.perms) b) Link)) both.0 (held_so value Link here ∙ holds)),
      )

  rule_lost : is_restated chosen (shape_of rule) ≡ false → (applies_to rule.applies_to subject && has_some rule.perms) ≡ true →
      LosesSome chosen subject rule
  rule_lost isnt loses =
      let both = and_parts (applies_to rule.applies_to subject) (has_some rule.perms) loses in
      let some = one_found (has rule.perms) both.1 in (
        some.0,
        λ unknown name met takes. (both.0, (letter_held rule.perms some.0 some.1, λ e. met), takes),
        λ value here holds. not_restated isnt value here,
      )

  rule_gained : is_restated chosen (shape_of rule) ≡ true → applies_to rule.applies_to subject ≡ false → GainsSome chosen subject rule
  rule_gained is not_applies =
      let parts = and_parts (applies_to rule.applies_to chosen && can_be_said (shape_of rule))
      (has_some (restated_perms rule.perms (is_some rule.target))) is in
      let some = one_found (has (restated_perms rule.perms (is_some rule.target))) parts.1 in (
        some.0,
        λ unknown name says. true≢false (sym says.0 ∙ not_applies),
        λ value here. sym (held_so value some.0 here)
            ∙ letter_restated rule.perms (is_some rule.target) some.0 some.1,
      )

  pub lost_is_real : change chosen subject (shape_of rule) ≡ lost rule.kind → LosesSome chosen subject rule
  lost_is_real told = ⊎_elim
      (λ is. ⊎_elim
      (λ applies. link_lost applies (is_lost rule.kind (loses_link (shape_of rule))
      (sym (ap (change_if chosen subject rule) is ∙ ap (gain_if chosen subject rule) applies) ∙ told)))
      (λ not_applies. absurd (lost_is_gained rule.kind
      (sym told ∙ ap (change_if chosen subject rule) is ∙ ap (gain_if chosen subject rule) not_applies)))
      (cases_Bool (applies_to rule.applies_to subject)))
      (λ isnt. rule_lost isnt (is_lost rule.kind (applies_to rule.applies_to subject && has_some rule.perms)
      (sym (ap (change_if chosen subject rule) isnt) ∙ told)))
      (cases_Bool (is_restated chosen (shape_of rule)))

  pub gained_is_real : change chosen subject (shape_of rule) ≡ gained rule.kind → GainsSome chosen subject rule
  gained_is_real told = ⊎_elim
      (λ is. ⊎_elim
      (λ applies. absurd (never_gained rule.kind (loses_link (shape_of rule))
      (sym (ap (change_if chosen subject rule) is ∙ ap (gain_if chosen subject rule) applies) ∙ told)))
      (λ not_applies. rule_gained is not_applies)
      (cases_Bool (applies_to rule.applies_to subject)))
      (λ isnt. absurd (never_gained rule.kind (applies_to rule.applies_to subject && has_some rule.perms)
      (sym (ap (change_if chosen subject rule) isnt) ∙ told)))
      (cases_Bool (is_restated chosen (shape_of rule)))
