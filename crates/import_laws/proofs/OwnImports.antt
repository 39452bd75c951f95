-- What was imported is imported as itself.
use Rattle.std.proofs.Common.{◌≡◌, ◌⊎◌, ◌≤◌, ℕ, Bool, true, false, ◌&&◌, List, [], ◌∷◌, map, length, Ok, Option, Some, None, refl, sym, ap}
use Rattle.std.proofs.Common.{◌∙◌, subst, inl, inr, if◌then◌else◌}
use Rattle.std.specs.Prelude.{nat_le, bytes_eq, not, option_map}
use Rattle.std.specs.List.{list_all, list_any}
use Rattle.std.proofs.lemmas.Bool.{and_parts, and_from, le-leb}
use Rattle.std.proofs.lemmas.List.{length-map}
use Rattle.std.proofs.lemmas.Option.{slice_get_past}
use Rattle.std.proofs.lemmas.Slice.Eq.{bytes_eq-Decides}
use Rattle.names.specs.Permissions.{has, all_permissions, conflicts}
use Rattle.rule_globs.specs.Each.{Each}
use Rattle.rule_globs.specs.Rules.{RuleValue, ProfileValue}
use Rattle.rule_profile.specs.Limits.{most_rules}
use Rattle.rule_profile.specs.Readable.{is_name, is_path, is_rule, is_profile}
use Rattle.rule_writer.specs.Canonical.{canonical}
use Rattle.import_laws.specs.CanonicalItems.{canonical_items, path_text, ends_plainly, WordsEndPlainly}
use Rattle.import_laws.proofs.ItemsRead.{reads_canonical}
use Rattle.import_spans.specs.declared.span.Span.{Span}
use Rattle.import_spans.specs.declared.span.SpanKind.{SpanKind}
use Rattle.import_spans.specs.declared.span.SpanKind.TheVariants.{Kept, Blank, Told}
use Rattle.import_scope.specs.FirstFaults.{FirstFault, variables_within}
use Rattle.import_scope.specs.Scopes.{ScopeState, at_start, behind_all}
use Rattle.import_scope.specs.Overrides.{items_given}
use Rattle.import_scope.specs.declared.assigned.Define.{Define}
use Rattle.import_scope.specs.laws.Given.{nothing_given}
use Rattle.apparmor_text.specs.Parts.{ItemValue}
use Rattle.import_profile.specs.declared.options.ImportOptions.{ImportOptions}
use Rattle.import_profile.specs.Imports.{ImportValue, Imports, only_one, chosen_number, changes_something, first_change, strict_outcome}
use Rattle.import_profile.specs.Imports.{chosen_outcome, declared_by, items_outcome, origin_of}
use Rattle.import_profile.specs.Restated.{PlacedValue, cut_for, all_rules, restated_rules}
use Rattle.import_laws.specs.Untold.{IsUntold}
use Rattle.import_laws.proofs.Imported.{IsImported, IsImportedProfile, made, where_changed, where_counted, where_chosen}
use Rattle.import_laws.proofs.Cuts.{first_choice, whole_cut, whole_rules}
use Rattle.import_laws.proofs.RuleItems.{settles}
use Rattle.import_laws.proofs.ScopesAgain.{head_of, outside, faultless, all_behind}

-- ---- the text

rules_readable : (rules : List RuleValue) → Each IsImported rules → list_all is_rule rules ≡ true
rules_readable [] h = refl
rules_readable (r ∷ rules) h =
    and_from (is_rule r) (list_all is_rule rules)
    (and_from (list_any (has r.perms) all_permissions && not (conflicts r.perms)) (is_path r.items)
    (and_from (list_any (has r.perms) all_permissions) (not (conflicts r.perms)) h.0.perms (ap not h.0.fit)) h.0.path)
    (rules_readable rules h.1)

readable : (p : ProfileValue) → IsImportedProfile p → is_profile p ≡ true
readable p h =
    and_from (is_name p.name && nat_le (length p.rules) most_rules) (list_all is_rule p.rules)
    (and_from (is_name p.name) (nat_le (length p.rules) most_rules) (and_parts (is_name p.name) _ h.name).0
    (le-leb (length p.rules) most_rules h.few))
    (rules_readable p.rules h.rules)

plain_paths : (rules : List RuleValue) → Each IsImported rules → Each (λ r. ends_plainly (path_text r.items) ≡ true) rules
plain_paths [] h = tt
plain_paths (r ∷ rules) h = ((settles r h.0).ends, plain_paths rules h.1)

words_end : (p : ProfileValue) → IsImportedProfile p → WordsEndPlainly p
words_end p h = record { name = (and_parts (is_name p.name) _ h.name).1; paths = plain_paths p.rules h.rules }

-- ---- the spans

quiet : (kind : SpanKind) → IsUntold kind → changes_something kind ≡ false
quiet Kept h = refl
quiet Blank h = refl
quiet (Told told) h = absurd h

unchanged : (spans : List Span) → Each (λ (span : Span). IsUntold span.kind) spans → first_change spans ≡ None
unchanged [] h = refl
unchanged (span ∷ spans) h = ap (λ (b : Bool). if b then Some span else first_change spans) (quiet span.kind h.0) ∙ unchanged spans h.1

-- ---- the outcome

stays_strict : (strict : Bool) (value : ImportValue) → first_change value.spans ≡ None → strict_outcome strict value ≡ Ok value
stays_strict false value e = refl
stays_strict true value e = ap (where_changed value) e

itself : (name : List ℕ) → bytes_eq name name ≡ true
itself name = (bytes_eq-Decides name name).1 refl

-- the only profile is chosen
is_chosen : (asked : Option (List ℕ)) (name : List ℕ) → (asked ≡ None) ⊎ (asked ≡ Some name) →
    chosen_number asked (head_of name ∷ []) ≡ Some 0
is_chosen asked name (inl e) = ap (λ o. chosen_number o (head_of name ∷ [])) e
is_chosen asked name (inr e) = ap (λ o. chosen_number o (head_of name ∷ [])) e ∙ ap (λ (b : Bool). only_one (if b then 0 ∷ [] else []))
    (itself name)

module _ (p : ProfileValue) (h : IsImportedProfile p) (again : ImportOptions) where
  abbrev own_spans : List Span
  own_spans = (cut_for (variables_within [] p.name) (first_choice again.subject) (canonical_items p)).spans

  abbrev placed : List PlacedValue
  placed = restated_rules again.subject (all_rules (variables_within [] p.name) (first_choice again.subject) (canonical_items p))

  abbrev pub own_value : ImportValue
  own_value = record { profile = p; origins = map origin_of placed; spans = own_spans }

  pub untold : Each (λ (span : Span). IsUntold span.kind) own_spans
  untold = (whole_cut (variables_within [] p.name) again.subject p h.rules).untold

  same_rules : map (λ (v : PlacedValue). v.value) placed ≡ p.rules
  same_rules = whole_rules (variables_within [] p.name) again.subject p h.rules

  few : length placed ≤ most_rules
  few = subst (λ n. n ≤ most_rules) (sym (sym (length-map placed (λ (v : PlacedValue). v.value)) ∙ ap length same_rules)) h.few

  own_outcome : chosen_outcome again.strict (variables_within [] p.name) (first_choice again.subject) p.name (canonical_items p)
      ≡ Ok own_value
  own_outcome =
      ap (where_counted again.strict (made p.name own_spans placed)) (slice_get_past placed most_rules few)
      ∙ ap (λ (rules : List RuleValue). strict_outcome again.strict (record {
        profile = record { name = p.name; rules = rules };
        origins = map origin_of placed;
        spans = own_spans;
      })) same_rules
      ∙ stays_strict again.strict own_value (unchanged own_spans untold)

  pub own_import : again.defines.now ≡ []
      → ((option_map (λ name. name.now) again.profile ≡ None) ⊎ (option_map (λ name. name.now) again.profile ≡ Some p.name))
      → Imports again (canonical p) (Ok own_value)
  own_import none asked =
      let all = canonical_items p in
      let end = (all_behind p).0 in
      let outcome : items_outcome again (declared_by again all) all ≡ Ok own_value =
      ap (λ (d : List Define). items_outcome again (behind_all (at_start d) (items_given again.overrides d all)) all) none
      ∙ ap (λ (seen : List ItemValue). items_outcome again (behind_all (at_start []) seen) all) (nothing_given again.overrides all)
      ∙ ap (λ (s : ScopeState). items_outcome again s all) (all_behind p).1
      ∙ ap (where_chosen again (outside (head_of p.name) end) all) (is_chosen (option_map (λ name. name.now) again.profile) p.name asked)
      ∙ own_outcome in
      record {
        items = all;
        end = None;
        fault = None;
        read = reads_canonical p (readable p h) (words_end p h);
        first = subst (λ (d : List Define). FirstFault (at_start d) (items_given again.overrides d all) None) (sym none)
            (subst (λ (seen : List ItemValue). FirstFault (at_start []) seen None) (sym (nothing_given again.overrides all))
            (faultless p h.name h.rules h.few));
        is = sym outcome;
      }
