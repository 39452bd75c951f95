use Rattle.std.proofs.Common.{◌≡◌, ℕ, List, Some, None, refl, sym, ap, ◌∙◌}
use Rattle.std.specs.Prelude.{slice_get}
use Rattle.apparmor_text.specs.Parts.{ItemValue}
use Rattle.import_scope.specs.Scopes.{Head}
use Rattle.import_profile.specs.Imports.{ImportValue, choice_of, chosen_number}
use Rattle.import_profile.specs.Restated.{all_rules}
use Rattle.apparmor_rules.specs.Restatement.{restated_all}
use Rattle.import_laws.specs.Imported.{mode_from, plain_rules}
use Rattle.import_laws.proofs.Opened.{known, end_of, asked, opened, import_of}
use Rattle.import_laws.proofs.RestatedLists.{without_places}
use Rattle.import_laws.proofs.meaning.imports_are_restated_rules.Goals as goal

pub returns-clause-some : goal.returns-clause-some
returns-clause-some c options text value i =
    let o = opened options text value i in (
      plain_rules (all_rules (known options o.items o.head) (choice_of options o.head o.number) o.items),
      mode_from o.number 0 o.items,
      record {
        items = o.items;
        number = o.number;
        head = o.head;
        read = o.read;
        faultless = o.faultless;
        chosen = o.chosen;
        found = o.found;
        name = ap (λ (v : ImportValue). v.profile.name) o.is;
        spans = ap (λ (v : ImportValue). v.spans) o.is;
        rules_are = refl;
        mode_is = refl;
      },
    )

pub returns-clause-rules : goal.returns-clause-rules
returns-clause-rules c options text value rules mode i m =
    let o = opened options text value i in
    let items : o.items ≡ m.items = (c.texts_have_one_outcome.ensures.one text o.items m.items None None o.read m.read).0 in
    let number : o.number ≡ m.number =
    let e : Some o.number ≡ Some m.number =
    sym o.chosen ∙ ap (λ (x : List ItemValue). chosen_number (asked options) (end_of options x).profiles) items ∙ m.chosen in cc in
    let head : o.head ≡ m.head =
    let e : Some o.head ≡ Some m.head =
    sym o.found ∙ ap (λ (x : List ItemValue). slice_get (end_of options x).profiles o.number) items
    ∙ ap (λ (n : ℕ). slice_get (end_of options m.items).profiles n) number ∙ m.found in cc in
    ap (λ (v : ImportValue). v.profile.rules)
    (o.is ∙ ap (λ (x : List ItemValue). import_of options x o.number o.head) items
    ∙ ap (λ (n : ℕ). import_of options m.items n o.head) number
    ∙ ap (λ (h : Head). import_of options m.items m.number h) head)
    ∙ without_places options.subject (all_rules (known options m.items m.head) (choice_of options m.head m.number) m.items)
    ∙ ap (restated_all options.subject) (sym m.rules_are)
