-- One rule, and what it is restated as.
use Rattle.std.proofs.Common.{◌≡◌, ◌≢◌, Bool, true, false, not, ◌&&◌, ◌==◌, ⊎_elim, List, [], ℕ, IsTrue, is_some, map, if◌then◌else◌}
use Rattle.std.proofs.Common.{refl, sym, ap, ◌∙◌, subst, true≢false}
use Rattle.std.specs.List.{Contains}
use Rattle.std.proofs.lemmas.Bool.{and_parts, and_from, cases_Bool, eqb-true}
use Rattle.names.specs.declared.permissions.Permission.{Permission}
use Rattle.names.specs.Permissions.{has, held}
use Rattle.rule_globs.specs.Glob.{Takes}
use Rattle.rule_globs.specs.Rules.{RuleValue, pattern, holds}
use Rattle.rule_globs.specs.Tokens.{Token, pattern_of}
use Rattle.apparmor_rules.specs.declared.effect.Extent.{Extent}
use Rattle.apparmor_rules.specs.declared.effect.Extent.TheVariants.{Exact}
use Rattle.apparmor_rules.specs.declared.subject.Subject.{Subject}
use Rattle.apparmor_rules.specs.Changes.{change, gained, left_out_change, lost, restated_change}
use Rattle.apparmor_rules.specs.SecondJudge.{SaysOf, TakesName}
use Rattle.apparmor_rules.specs.Restatement.{can_be_said, has_priority, has_some, is_read, is_restated, loses_link, restated}
use Rattle.apparmor_rules.specs.Restatement.{restated_paths, restated_perms, shape_of}
use Rattle.apparmor_rules.specs.Restatement.{with_path}
use Rattle.apparmor_rules.specs.SubjectRules.{SubjectPath, SubjectRule, Unknown, read, unread}
use Rattle.apparmor_rules.specs.Subjects.{applies_to}
use Rattle.apparmor_rules.specs.laws.RestatedPerms.{held_after, held_before, held_by_letters, held_link, met, some_letter}
use Rattle.apparmor_rules.proofs.SomeElements.{made_of_some, nothing_in, some_from, some_made}

-- a path's names are those of the paths that it was read as
taken : (unknown : Unknown) (path : SubjectPath) (name : List ℕ) (tokens : List Token) →
    Contains (restated_paths path) tokens → Takes (pattern_of tokens) name → TakesName unknown path name
taken unknown (read paths) name tokens here takes = some_from (λ path. Takes (pattern_of path) name) paths tokens here takes
taken unknown (unread text) name tokens here takes = absurd (nothing_in tokens here)

taken_back : (unknown : Unknown) (path : SubjectPath) (name : List ℕ) → is_read path ≡ true → TakesName unknown path name →
    (tokens : List Token) × Contains (restated_paths path) tokens × Takes (pattern_of tokens) name
taken_back unknown (read paths) name is takes = (takes.1, (takes.0, takes.2, takes.3), takes.4)
taken_back unknown (unread text) name is takes = absurd (true≢false (sym is))

module _ (chosen subject : Subject) (rule : SubjectRule) where
  -- what is restated, and what that changes, by whether anything is
  abbrev pub restated_if : Bool → List RuleValue
  restated_if b = if b then map (with_path rule) (restated_paths rule.path) else []

  abbrev pub change_if : Bool → Extent
  change_if b = if b then restated_change subject (shape_of rule) else left_out_change subject (shape_of rule)

  -- by whether the rule applies to the subject, and whether link is lost
  abbrev pub gain_if : Bool → Extent
  gain_if applies = if not applies then gained rule.kind else if loses_link (shape_of rule) then lost rule.kind else Exact

  abbrev pub loss_if : Bool → Extent
  loss_if b = if b then lost rule.kind else Exact

  -- what is restated is the rule with some path
  pub made : (value : RuleValue) → Contains (restated chosen rule) value →
      (is_restated chosen (shape_of rule) ≡ true) × ((path : List Token) × Contains (restated_paths rule.path) path
      × (with_path rule path ≡ value))
  made value here = ⊎_elim
      (λ is. (is, made_of_some (with_path rule) (restated_paths rule.path) value (subst (λ b. Contains (restated_if b) value) is here)))
      (λ isnt. absurd (nothing_in value (subst (λ b. Contains (restated_if b) value) isnt here)))
      (cases_Bool (is_restated chosen (shape_of rule)))

  -- a rule that is restated has no priority
  pub no_priority_left : is_restated chosen (shape_of rule) ≡ true → rule.priority.size ≡ 0
  no_priority_left is =
      let first = and_parts (applies_to rule.applies_to chosen && can_be_said (shape_of rule))
      (has_some (restated_perms rule.perms (is_some rule.target))) is in
      let said = (and_parts (applies_to rule.applies_to chosen) (can_be_said (shape_of rule)) first.0).1 in
      zero (rule.priority.size == 0) refl (and_parts (is_read rule.path) (not (has_priority rule.priority)) said).1
    where
      zero : (b : Bool) → (rule.priority.size == 0) ≡ b → not (not b) ≡ true → rule.priority.size ≡ 0
      zero true e h = eqb-true rule.priority.size 0 e
      zero false e h = absurd cc

  pub same_kind : (value : RuleValue) → Contains (restated chosen rule) value → rule.kind ≡ value.kind
  same_kind value here = ap (λ v. v.kind) (made value here).1.2

  -- what is restated says nothing that the rule doesn't, if nothing is gained
  pub says_no_more : (unknown : Unknown) (p : Permission) (name : List ℕ) (value : RuleValue) →
      change chosen subject (shape_of rule) ≢ gained rule.kind → Contains (restated chosen rule) value →
      IsTrue (holds value p) → Takes (pattern value) name → SaysOf unknown subject p name rule
  says_no_more unknown p name value no_gain here is_held takes =
      let of = made value here in
      let path = of.1 in
      let own = subst (λ s. IsTrue (has s p)) (held_by_letters rule.perms (is_some rule.target))
      (subst (λ v. IsTrue (holds v p)) (sym path.2) is_held) in (
        ⊎_elim
            (λ applies. applies)
            (λ not_applies. absurd (no_gain (ap change_if of.0 ∙ ap gain_if not_applies)))
            (cases_Bool (applies_to rule.applies_to subject)),
        (held_before (held rule.perms) (is_some rule.target) p own, met unknown rule.target (held rule.perms) p own),
        taken unknown rule.path name path.0 path.1 (subst (λ v. Takes (pattern v) name) (sym path.2) takes),
      )

  -- what the rule says is restated, if nothing is lost
  pub says_no_less : (unknown : Unknown) (p : Permission) (name : List ℕ) →
      change chosen subject (shape_of rule) ≢ lost rule.kind → SaysOf unknown subject p name rule →
      (value : RuleValue) × Contains (restated chosen rule) value × (value.kind ≡ rule.kind) × IsTrue (holds value p)
      × Takes (pattern value) name
  says_no_less unknown p name no_loss says = ⊎_elim
      (λ is.
      let first = and_parts (applies_to rule.applies_to chosen && can_be_said (shape_of rule))
      (has_some (restated_perms rule.perms (is_some rule.target))) is in
      let said = (and_parts (applies_to rule.applies_to chosen) (can_be_said (shape_of rule)) first.0).1 in
      let path = taken_back unknown rule.path name (and_parts (is_read rule.path) (not (has_priority rule.priority)) said).0 says.2 in
      let keeps_link = ⊎_elim
      (λ loses. absurd (no_loss (ap change_if is ∙ ap gain_if says.0 ∙ ap loss_if loses)))
      (λ keeps. keeps)
      (cases_Bool (loses_link (shape_of rule))) in (
        with_path rule path.0,
        subst (λ b. Contains (restated_if b) (with_path rule path.0)) (sym is)
            (some_made (with_path rule) (restated_paths rule.path) path.0 path.1),
        refl,
        subst (λ s. IsTrue (has s p)) (sym (held_by_letters rule.perms (is_some rule.target)))
            (held_after (held rule.perms) (is_some rule.target) p
            (ap (λ b. is_some rule.target && b) (held_link rule.perms) ∙ keeps_link) says.1.0),
        path.2,
      ))
      (λ isnt. absurd (no_loss (ap change_if isnt ∙ ap loss_if
      (and_from (applies_to rule.applies_to subject) (has_some rule.perms) says.0 (some_letter rule.perms p says.1.0)))))
      (cases_Bool (is_restated chosen (shape_of rule)))
