use Rattle.std.proofs.Common.{◌≡◌, ◌≤◌, ℕ, true, ◌&&◌, List, map, length, ap, ◌∙◌, arith}
use Rattle.std.specs.Prelude.{nat_le}
use Rattle.std.specs.List.{list_all}
use Rattle.std.proofs.lemmas.Bool.{and_from}
use Rattle.std.proofs.lemmas.Bool.Decides.{nat_tests}
use Rattle.std.proofs.lemmas.List.{length-map}
use Rattle.std.proofs.lemmas.List.Sums.{list_all-from_AllPass}
use Rattle.rule_profile.specs.Readable.{is_name, is_path, is_profile, is_rule}
use Rattle.import_spans.specs.CutStates as cuts
use Rattle.import_profile.specs.ImportedPaths.{imported_paths}
use Rattle.import_scope.specs.Scopes.{at_start}
use Rattle.import_profile.specs.declared.options.ImportOptions.{ImportOptions}
use Rattle.import_profile.specs.Imports.{ImportValue, choice_of, items_seen}
use Rattle.import_profile.specs.Restated.{PlacedValue, all_rules, cut_for}
use Rattle.import_laws.proofs.Opened.{Opened, known, opened, placed_values}
use Rattle.import_laws.proofs.Readable.{all_good, at_most, names_are_said, rules_pass}
use Rattle.import_laws.proofs.RestatedLists.{without_places}
use Rattle.import_laws.proofs.outcomes.imports_can_be_read.Goals as goal

few_pass : (n : ℕ) → n ≤ 1024 → nat_le n 1024 ≡ true
few_pass n h = grind (arith, nat_tests)

is_readable : ((text : List ℕ) → list_all is_path (imported_paths text) ≡ true) → (options : ImportOptions) (text : List ℕ)
    (value : ImportValue)
    → Opened options text value → is_profile value.profile ≡ true
is_readable readable options text value o =
    let choice = choice_of options o.head o.number in
    let variables = known options o.items o.head in
    let values = placed_values options o.items o.number o.head in
    let rules = map (λ (r : PlacedValue). r.value) values in
    let cut = cut_for variables choice o.items in
    let name = names_are_said (at_start options.defines.now) (items_seen options o.items) o.number o.head tt o.faultless o.found in
    let same = length-map values (λ (r : PlacedValue). r.value) in
    let most = at_most values 1024 o.few in
    let few = few_pass (length rules) (omega (arith, same, most)) in
    let pass : list_all is_rule rules ≡ true =
    ap (list_all is_rule) (without_places options.subject (all_rules variables choice o.items))
    ∙ rules_pass options.subject (all_rules variables choice o.items)
    (all_good readable variables options.subject o.items (cuts.at_start choice) cut.changes_profile cut.has_hat) in
    ap (λ (v : ImportValue). is_profile v.profile) o.is
    ∙ and_from (is_name o.head.name && nat_le (length rules) 1024) (list_all is_rule rules)
    (and_from (is_name o.head.name) (nat_le (length rules) 1024) name few) pass

pub returns-clause-readable : goal.returns-clause-readable
returns-clause-readable c options text value i =
    is_readable (λ x. list_all-from_AllPass is_path (imported_paths x) (c.imported_paths_can_be_read.ensures.readable x)) options text
    value (opened options text value i)

pub returns-clause-again : goal.returns-clause-again
returns-clause-again c options text value i =
    let law = c.canonical_texts_are_read.ensures in
    law.again value.profile ((law.readable value.profile).1 (returns-clause-readable c options text value i))
