-- An imported profile has a name that can be said, and rules that can be read.
use Rattle.std.proofs.Common.{◌≡◌, ℕ, zero, suc, ◌≤◌, ◌==◌, Bool, true, false, not, ◌&&◌, cond, List, [], ◌∷◌, ◌++◌, map, length, Option}
use Rattle.std.proofs.Common.{Some, None, refl, ap, ◌∙◌, subst, arith}
use Rattle.std.specs.Prelude.{slice_get, nat_eq, codes, IsTrue}
use Rattle.std.specs.List.{list_all, ends_with}
use Rattle.std.proofs.lemmas.Bool.{and_parts, and_from}
use Rattle.std.proofs.lemmas.List.Folds.{list_all-append}
use Rattle.names.specs.declared.permissions.Perms.{Perms}
use Rattle.names.specs.Permissions.{conflicts}
use Rattle.rule_globs.specs.Each.{Each}
use Rattle.rule_globs.specs.Tokens.{Token}
use Rattle.rule_profile.specs.Readable.{is_name, is_path, is_rule}
use Rattle.apparmor_text.specs.Parts.{ItemValue}
use Rattle.apparmor_rules.specs.declared.subject.Subject.{Subject}
use Rattle.apparmor_rules.specs.Restatement.{has_some, is_restated, restated, restated_all, restated_paths, restated_perms, shape_of}
use Rattle.apparmor_rules.specs.Restatement.{can_be_said as can_be_restated, fitting_letters, with_path}
use Rattle.apparmor_rules.specs.SubjectRules.{SubjectPath, SubjectRule, read, unread}
use Rattle.apparmor_rules.specs.Subjects.{applies_to}
use Rattle.apparmor_rules.specs.laws.RestatedPerms.{fitting, some_fitting}
use Rattle.import_spans.specs.CutStates.{CutState}
use Rattle.import_spans.specs.Cuts.{cut_item, is_chosen_rule}
use Rattle.import_profile.specs.ImportedPaths.{imported_paths}
use Rattle.import_scope.specs.FirstFaults.{Counted, nothing_counted, FirstFaultFrom, FirstFault, none_left, at_head, at_path, later}
use Rattle.import_scope.specs.Scopes.{Fault, Head, ScopeState, behind, behind_all, can_be_said}
use Rattle.import_scope.specs.inner.Outlines.{head_stop}
use Rattle.import_scope.specs.laws.Extensions.{AreNamed, last_is_behind, named_last}
use Rattle.apparmor_variables.specs.Variables.{Variable}
use Rattle.import_profile.specs.AddedRules.{added_rules}
use Rattle.import_profile.specs.FileRules.{PlacedRule, item_reading, path_as, rule_text, rules_at, rules_in, subject_rule}
use Rattle.import_laws.specs.Imported.{plain_rules}
use Rattle.import_laws.proofs.EachAdded.{each_of_both, of_each_added}

-- ---- the name

no_stop : (s : ScopeState) (c : Counted) (items : List ItemValue) (end : Option Fault) → FirstFaultFrom s c items end → end ≡ None →
    head_stop s items ≡ None
no_stop s c items end (none_left t k) is = refl
no_stop s c items end (at_head t k item others fault e) is = absurd cc
no_stop s c items end (at_path t k item others q fault e f) is = absurd cc
no_stop s c items end (later t k next item others last e a r) is =
    ap (λ (o : Option Fault). elim o [ None ↦ head_stop (behind t item) others | Some fault ↦ Some fault ]) e
    ∙ no_stop (behind t item) next others last r is

one_named : (heads : List Head) (n : ℕ) (head : Head) → AreNamed heads → slice_get heads n ≡ Some head → IsTrue (can_be_said head.name)
one_named [] n head named e = absurd cc
one_named (x ∷ heads) zero head named e =
    let same : x ≡ head = cc in
    subst (λ (h : Head). IsTrue (can_be_said h.name)) same named.0
one_named (x ∷ heads) (suc n) head named e = one_named heads n head named.1 e

-- the name of each profile of a text without a fault can be said
pub names_are_said : (s : ScopeState) (items : List ItemValue) (n : ℕ) (head : Head) → AreNamed s.profiles → FirstFault s items None
    → slice_get (behind_all s items).profiles n ≡ Some head → is_name head.name ≡ true
names_are_said s items n head named first found =
    let last = last_is_behind s items (no_stop s nothing_counted items None first refl) in
    let all = subst (λ (t : ScopeState). AreNamed t.profiles) last (named_last s items named) in
    (and_parts (is_name head.name) (not (ends_with nat_eq head.name (codes "\\")))
    (one_named (behind_all s items).profiles n head all found)).0

-- ---- how many

pub at_most : {A : Type 0} (xs : List A) (n : ℕ) → slice_get xs n ≡ None → length xs ≤ n
at_most [] n e = omega arith
at_most (x ∷ xs) zero e = absurd cc
at_most (x ∷ xs) (suc n) e = let h = at_most xs n e in omega (arith, h)

-- ---- the rules

-- paths that were read can be read again
abbrev pub IsGood : SubjectPath → Type 0
IsGood (read paths) = list_all is_path paths ≡ true
IsGood (unread text) = Unit {0}

abbrev pub AreGood : List PlacedRule → Type 0
AreGood rules = Each (λ r. IsGood r.rule.path) rules

module _ (readable : (text : List ℕ) → list_all is_path (imported_paths text) ≡ true) where
  path_is_good : (text : List ℕ) (paths : List (List Token)) → list_all is_path paths ≡ true → IsGood (path_as text paths)
  path_is_good text paths h = at (length paths == 0)
    where
      at : (b : Bool) → IsGood (cond b (unread text) (read paths))
      at true = tt
      at false = h

  at_good : (variables : List Variable) (item : ItemValue) (s : CutState) → AreGood (rules_at variables item s)
  at_good variables item s = at (is_chosen_rule item s)
    where
      at : (b : Bool) → AreGood (cond b (record { place = s.at; rule = subject_rule variables item.parts } ∷ []) [])
      at true = let text = rule_text variables item.parts in (path_is_good text (imported_paths text) (readable text), tt)
      at false = tt

  rules_good : (variables : List Variable) (chosen : Subject) (items : List ItemValue) (s : CutState) →
      AreGood (rules_in variables chosen items s)
  rules_good variables chosen [] s = tt
  rules_good variables chosen (item ∷ items) s =
      let next = cut_item (item_reading variables chosen item) item s in
      each_of_both (λ r. IsGood r.rule.path) (rules_at variables item s) (rules_in variables chosen items next) (at_good variables item s)
      (rules_good variables chosen items next)

  pub all_good : (variables : List Variable) (chosen : Subject) (items : List ItemValue) (s : CutState) (change hat : Option ℕ)
      → AreGood (rules_in variables chosen items s ++ added_rules change hat)
  all_good variables chosen items s change hat =
      each_of_both (λ r. IsGood r.rule.path) (rules_in variables chosen items s) (added_rules change hat)
      (rules_good variables chosen items s) (of_each_added (λ r. IsGood r.rule.path) (λ place perms path some. readable path) change hat)

letters_pass : (perms : Perms) (path : List Token) → has_some perms ≡ true → is_path path ≡ true →
    (has_some (fitting_letters perms) && not (conflicts (fitting_letters perms)) && is_path path) ≡ true
letters_pass perms path some good =
    and_from (has_some (fitting_letters perms) && not (conflicts (fitting_letters perms))) (is_path path)
    (and_from (has_some (fitting_letters perms)) (not (conflicts (fitting_letters perms))) (some_fitting perms some)
    (ap not (fitting perms))) good

paths_pass : (rule : SubjectRule) (paths : List (List Token)) → has_some (restated_perms rule.perms (shape_of rule).has_target) ≡ true →
    list_all is_path paths ≡ true
    → list_all is_rule (map (with_path rule) paths) ≡ true
paths_pass rule [] some h = refl
paths_pass rule (path ∷ paths) some h =
    let both = and_parts (is_path path) (list_all is_path paths) h in
    and_from (is_rule (with_path rule path)) (list_all is_rule (map (with_path rule) paths))
    (letters_pass (restated_perms rule.perms (shape_of rule).has_target) path some both.0)
    (paths_pass rule paths some both.1)

good_paths : (path : SubjectPath) → IsGood path → list_all is_path (restated_paths path) ≡ true
good_paths (read paths) h = h
good_paths (unread text) h = refl

restated_pass : (chosen : Subject) (rule : SubjectRule) → IsGood rule.path → list_all is_rule (restated chosen rule) ≡ true
restated_pass chosen rule good = at (is_restated chosen (shape_of rule)) refl
  where
    at : (b : Bool) → is_restated chosen (shape_of rule) ≡ b →
        list_all is_rule (cond b (map (with_path rule) (restated_paths rule.path)) []) ≡ true
    at true e =
        let some = (and_parts (applies_to rule.applies_to chosen && can_be_restated (shape_of rule))
        (has_some (restated_perms rule.perms (shape_of rule).has_target)) e).1 in
        paths_pass rule (restated_paths rule.path) some (good_paths rule.path good)
    at false e = refl

pub rules_pass : (chosen : Subject) (rules : List PlacedRule) → AreGood rules → list_all is_rule (restated_all chosen (plain_rules rules))
    ≡ true
rules_pass chosen [] good = refl
rules_pass chosen (r ∷ rules) good =
    list_all-append is_rule (restated chosen r.rule) (restated_all chosen (plain_rules rules))
    ∙ and_from (list_all is_rule (restated chosen r.rule)) (list_all is_rule (restated_all chosen (plain_rules rules)))
    (restated_pass chosen r.rule good.0) (rules_pass chosen rules good.1)
