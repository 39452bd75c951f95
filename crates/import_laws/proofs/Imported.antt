-- The rules of an imported profile, and its name.
use Rattle.std.proofs.Common.{◌≡◌, ◌≤◌, ℕ, Bool, true, false, ◌&&◌, ◌==◌, List, [], ◌∷◌, map, length, Ok, Err, Option, Some, None, refl}
use Rattle.std.proofs.Common.{sym, ◌∙◌, subst, if◌then◌else◌, ⊎_elim}
use Rattle.std.specs.Prelude.{codes, nat_le, slice_get, option_map}
use Rattle.std.specs.List.{list_all}
use Rattle.std.proofs.lemmas.Bool.{and_parts}
use Rattle.std.proofs.lemmas.Option.{slice_get_cases}
use Rattle.std.proofs.lemmas.List.{length-map}
use Rattle.names.specs.Permissions.{conflicts}
use Rattle.rule_globs.specs.Each.{Each}
use Rattle.rule_globs.specs.Rules.{RuleValue, ProfileValue}
use Rattle.rule_globs.specs.Tokens.{Token}
use Rattle.rule_profile.specs.Limits.{most_rules}
use Rattle.rule_profile.specs.Readable.{is_path}
use Rattle.apparmor_text.specs.Parts.{ItemValue}
use Rattle.apparmor_words.specs.Steps.{Stop}
use Rattle.import_spans.specs.CutStates.{CutState, at_start}
use Rattle.import_spans.specs.Cuts.{cut_item, is_chosen_rule}
use Rattle.import_spans.specs.declared.context.Choice.{Choice}
use Rattle.import_spans.specs.declared.span.Span.{Span}
use Rattle.import_profile.specs.ImportedPaths.{imported_paths}
use Rattle.import_profile.specs.Settled.{is_settled}
use Rattle.import_profile.proofs.ImportLaws.{imported_readable, imported_settled}
use Rattle.import_scope.specs.FirstFaults.{FirstFault, variables_within}
use Rattle.import_scope.specs.Scopes as scopes
use Rattle.import_scope.specs.Scopes.{Head, ScopeState, can_be_said}
use Rattle.import_scope.specs.laws.Extensions.{AreNamed}
use Rattle.apparmor_variables.specs.Variables.{Variable}
use Rattle.apparmor_rules.specs.declared.subject.Subject.{Subject}
use Rattle.apparmor_rules.specs.Restatement.{can_be_said as can_be_restated, has_some, is_restated, restated_perms}
use Rattle.apparmor_rules.specs.Restatement.{restated_paths, shape_of}
use Rattle.apparmor_rules.specs.Restatement.{with_path}
use Rattle.apparmor_rules.specs.SubjectRules.{SubjectRule, read, unread}
use Rattle.apparmor_rules.specs.Subjects.{applies_to}
use Rattle.apparmor_rules.specs.laws.RestatedPerms.{fitting, some_fitting}
use Rattle.import_profile.specs.declared.options.ImportOptions.{ImportOptions}
use Rattle.import_profile.specs.AddedRules.{queries, change_of_profile, change_of_hat, added_rules}
use Rattle.import_profile.specs.Faults.{which, too_many_rules, not_exact}
use Rattle.import_profile.specs.FileRules.{PlacedRule, path_as, rule_text, subject_rule, item_reading, rules_at, rules_in}
use Rattle.import_profile.specs.Imports.{ImportValue, Imports, Outcome, first_change, strict_outcome, counted_outcome, chosen_number}
use Rattle.import_profile.specs.Imports.{choice_of, declared_by, head_outcome, items_outcome, items_seen, origin_of, read_outcome}
use Rattle.import_profile.specs.Restated.{PlacedValue, cut_for, all_rules, restated_at, restated_rules}
use Rattle.import_laws.proofs.Lists.{each_append, each_made, each_mapped}
use Rattle.import_laws.proofs.Names.{all_named, named_at}

-- a rule as an import gives it: it has some permission, no two that conflict, and its path can be read and is settled
pub record IsImported (r : RuleValue) : Type 0 where
  pub perms : has_some r.perms ≡ true
  pub fit : conflicts r.perms ≡ false
  pub path : is_path r.items ≡ true
  pub settled : is_settled r.items ≡ true

-- ---- one rule

-- paths that can be read and are settled
record AreSettled (paths : List (List Token)) : Type 0 where
  path : list_all is_path paths ≡ true
  settled : list_all is_settled paths ≡ true

abbrev HasPaths : PlacedRule → Type 0
HasPaths r = AreSettled (restated_paths r.rule.path)

imported_settle : (text : List ℕ) → AreSettled (imported_paths text)
imported_settle text = record { path = imported_readable text; settled = imported_settled text }

as_settle : (text : List ℕ) (paths : List (List Token)) → AreSettled paths → AreSettled (restated_paths (path_as text paths))
as_settle text paths h = at (length paths == 0)
  where
    at : (b : Bool) → AreSettled (restated_paths (if b then unread text else read paths))
    at true = record { path = refl; settled = refl }
    at false = h

-- the rule with each of its paths
with_each : (place : ℕ) (rule : SubjectRule) (paths : List (List Token)) → has_some (restated_perms rule.perms (shape_of rule).has_target)
    ≡ true → AreSettled paths
    → Each (λ (v : PlacedValue). IsImported v.value) (map (λ value. record { place = place; value = value }) (map (with_path rule) paths))
with_each place rule [] some h = tt
with_each place rule (path ∷ paths) some h =
    let p = and_parts (is_path path) (list_all is_path paths) h.path in
    let s = and_parts (is_settled path) (list_all is_settled paths) h.settled in
    let perms = restated_perms rule.perms (shape_of rule).has_target in (
      record { perms = some_fitting perms some; fit = fitting perms; path = p.0; settled = s.0 },
      with_each place rule paths some (record { path = p.1; settled = s.1 }),
    )

if_restated : (chosen : Subject) (r : PlacedRule) → HasPaths r → Each (λ (v : PlacedValue). IsImported v.value) (restated_at chosen r)
if_restated chosen r h = at (is_restated chosen (shape_of r.rule)) refl
  where
    at : (b : Bool) → is_restated chosen (shape_of r.rule) ≡ b
        → Each (λ (v : PlacedValue). IsImported v.value) (map (λ value. record { place = r.place; value = value })
        (if b then map (with_path r.rule) (restated_paths r.rule.path) else []))
    at true e =
        let some = (and_parts (applies_to r.rule.applies_to chosen && can_be_restated (shape_of r.rule))
        (has_some (restated_perms r.rule.perms (shape_of r.rule).has_target)) e).1 in
        with_each r.place r.rule (restated_paths r.rule.path) some h
    at false e = tt

-- ---- all rules

at_item : (variables : List Variable) (item : ItemValue) (s : CutState) → Each HasPaths (rules_at variables item s)
at_item variables item s = at (is_chosen_rule item s)
  where
    at : (b : Bool) → Each HasPaths (if b then record { place = s.at; rule = subject_rule variables item.parts } ∷ [] else [])
    at true = let text = rule_text variables item.parts in (as_settle text (imported_paths text) (imported_settle text), tt)
    at false = tt

in_items : (variables : List Variable) (chosen : Subject) (items : List ItemValue) (s : CutState) →
    Each HasPaths (rules_in variables chosen items s)
in_items variables chosen [] s = tt
in_items variables chosen (item ∷ items) s =
    let next = cut_item (item_reading variables chosen item) item s in
    each_append HasPaths (rules_at variables item s) (rules_in variables chosen items next) (at_item variables item s)
    (in_items variables chosen items next)

-- the rules that AppArmor adds also have paths converted from their texts
queried : (place : ℕ) → Each HasPaths (queries place)
queried place = (imported_settle (codes "/proc/*/attr/apparmor/"), (imported_settle (codes "/sys/module/apparmor/parameters/enabled"), tt))

profile_changed : (place : ℕ) → HasPaths (change_of_profile place)
profile_changed place = imported_settle (codes "/proc/*/attr/{,apparmor/}{current,exec}")

hat_changed : (place : ℕ) → HasPaths (change_of_hat place)
hat_changed place = imported_settle (codes "/proc/[0-9]*/attr/{,apparmor/}current")

in_added : (change hat : Option ℕ) → Each HasPaths (added_rules change hat)
in_added None None = tt
in_added (Some change) None = each_append HasPaths (queries change) (change_of_profile change ∷ []) (queried change)
    (profile_changed change, tt)
in_added None (Some hat) = each_append HasPaths (queries hat) (change_of_hat hat ∷ []) (queried hat) (hat_changed hat, tt)
in_added (Some change) (Some hat) =
    let first = if nat_le change hat then change else hat in
    each_append HasPaths (queries first) (change_of_profile change ∷ change_of_hat hat ∷ []) (queried first)
    (profile_changed change, (hat_changed hat, tt))

all_imported : (variables : List Variable) (choice : Choice) (items : List ItemValue)
    → Each (λ (v : PlacedValue). IsImported v.value) (restated_rules choice.subject (all_rules variables choice items))
all_imported variables choice items =
    let end = cut_for variables choice items in
    each_made HasPaths (λ (v : PlacedValue). IsImported v.value) (restated_at choice.subject) (all_rules variables choice items)
    (if_restated choice.subject) (each_append HasPaths (rules_in variables choice.subject items (at_start choice))
    (added_rules end.changes_profile end.has_hat) (in_items variables choice.subject items (at_start choice))
    (in_added end.changes_profile end.has_hat))

-- ---- outcomes

-- a profile as an import gives it
pub record IsImportedProfile (p : ProfileValue) : Type 0 where
  pub name : can_be_said p.name ≡ true
  pub rules : Each IsImported p.rules
  pub few : length p.rules ≤ most_rules

abbrev pub where_changed : ImportValue → Option Span → Outcome
where_changed value None = Ok value
where_changed value (Some span) = Err (not_exact span.start)

of_strict : (strict : Bool) (value other : ImportValue) → Ok other ≡ strict_outcome strict value → other ≡ value
of_strict false value other e = cc
of_strict true value other e = at (first_change value.spans) e
  where
    at : (o : Option Span) → Ok other ≡ where_changed value o → other ≡ value
    at None e = cc
    at (Some span) e = absurd cc

few_rules : {A : Type 0} (xs : List A) → slice_get xs most_rules ≡ None → length xs ≤ most_rules
few_rules xs e =
    ⊎_elim
    (λ there. let none : Some there.0 ≡ None = sym there.2 ∙ e in absurd cc)
    (λ past. past.0)
    (slice_get_cases xs most_rules).1

abbrev pub made : List ℕ → List Span → List PlacedValue → ImportValue
made name spans rules = record {
  profile = record { name = name; rules = map (λ r. r.value) rules };
  origins = map origin_of rules;
  spans = spans;
}

abbrev pub where_counted : Bool → ImportValue → Option PlacedValue → Outcome
where_counted strict value (Some rule) = Err (too_many_rules rule.place)
where_counted strict value None = strict_outcome strict value

of_counted : (strict : Bool) (name : List ℕ) (spans : List Span) (rules : List PlacedValue) (value : ImportValue)
    → can_be_said name ≡ true → Each (λ (v : PlacedValue). IsImported v.value) rules → Ok value ≡ counted_outcome strict name spans rules →
    IsImportedProfile value.profile
of_counted strict name spans rules value said h e = at (slice_get rules most_rules) refl e
  where
    at : (o : Option PlacedValue) → slice_get rules most_rules ≡ o → Ok value ≡ where_counted strict (made name spans rules) o →
        IsImportedProfile value.profile
    at (Some rule) is e = absurd cc
    at None is e =
        subst (λ (v : ImportValue). IsImportedProfile v.profile) (sym (of_strict strict (made name spans rules) value e)) (record {
          name = said;
          rules = each_mapped (λ (v : PlacedValue). IsImported v.value) IsImported (λ r. r.value) rules (λ v g. g) h;
          few = subst (λ n. n ≤ most_rules) (sym (length-map rules (λ (r : PlacedValue). r.value))) (few_rules rules is);
        })

of_head : (options : ImportOptions) (s : ScopeState) (items : List ItemValue) (number : ℕ) (value : ImportValue) (o : Option Head) →
    slice_get s.profiles number ≡ o
    → AreNamed s.profiles → Ok value ≡ head_outcome options s items number o → IsImportedProfile value.profile
of_head options s items number value None is named e = absurd cc
of_head options s items number value (Some head) is named e =
    let choice = choice_of options head number in
    let variables = variables_within s.declared head.name in
    of_counted options.strict head.name (cut_for variables choice items).spans
    (restated_rules choice.subject (all_rules variables choice items)) value (named_at s.profiles number head is named)
    (all_imported variables choice items) e

abbrev pub where_chosen : ImportOptions → ScopeState → List ItemValue → Option ℕ → Outcome
where_chosen options s items None = Err (which (map (λ head. head.name) s.profiles))
where_chosen options s items (Some number) = head_outcome options s items number (slice_get s.profiles number)

of_items : (options : ImportOptions) (s : ScopeState) (items : List ItemValue) (value : ImportValue) → AreNamed s.profiles →
    Ok value ≡ items_outcome options s items
    → IsImportedProfile value.profile
of_items options s items value named e = at (chosen_number (option_map (λ name. name.now) options.profile) s.profiles) e
  where
    at : (o : Option ℕ) → Ok value ≡ where_chosen options s items o → IsImportedProfile value.profile
    at None e = absurd cc
    at (Some number) e = of_head options s items number value (slice_get s.profiles number) refl named e

pub profile_imported : (options : ImportOptions) (text : List ℕ) (value : ImportValue) → Imports options text (Ok value) →
    IsImportedProfile value.profile
profile_imported options text value i = at i.fault i.end i.first i.is
  where
    at : (fault : Option scopes.Fault) (end : Option Stop) → FirstFault (scopes.at_start options.defines.now)
        (items_seen options i.items) fault
        → Ok value ≡ read_outcome options (length text) i.items fault end → IsImportedProfile value.profile
    at (Some fault) end first e = absurd cc
    at None (Some stop) first e = absurd cc
    at None None first e =
        of_items options (declared_by options i.items) i.items value
        (all_named (scopes.at_start options.defines.now) (items_seen options i.items) first tt) e
