use Rattle.std.proofs.Common.{List, [], ◌∷◌, ◌++◌, refl, sym, ap, ◌∙◌, subst}
use Rattle.std.specs.List.{Contains}
use Rattle.rule_globs.specs.Each.{Each}
use Rattle.apparmor_text.specs.SoundItems.{IsItem}
use Rattle.apparmor_text.specs.Parts.{ItemValue}
use Rattle.apparmor_rules.specs.Restatement.{shape_of}
use Rattle.apparmor_rules.specs.Subjects.{other_subject}
use Rattle.import_spans.specs.declared.span.Span.{Span}
use Rattle.import_spans.specs.Cuts.{cut_of}
use Rattle.import_profile.specs.FileRules.{item_reading, subject_rule}
use Rattle.import_profile.specs.Imports.{choice_of}
use Rattle.import_profile.proofs.ToldShapes.{told_change}
use Rattle.import_laws.specs.Imported.{variables_of}
use Rattle.import_laws.proofs.meaning.imported_rules_are_reported_in_place.Goals as goal

item_there : (before after : List ItemValue) (item : ItemValue) → Each IsItem (before ++ (item ∷ after)) → IsItem item
item_there [] after item h = h.0
item_there (first ∷ before) after item h = item_there before after item h.1

pub returns-clause-chosen : goal.returns-clause-chosen
returns-clause-chosen c options text value rules mode m before after item parted inside isnt =
    let choice = choice_of options m.head m.number in
    let reading = item_reading (variables_of options m.items m.head) options.subject in
    let rule = shape_of (subject_rule (variables_of options m.items m.head) item.parts) in
    let same = told_change options.subject options.subject rule in
    let written = item_there before after item (subst (Each IsItem) parted (c.items_are_the_text.ensures.items text m.items _ m.read)) in
    let chosen = c.chosen_rules_are_by_braces.ensures reading choice before item ∙ inside in
    let found = c.changes_are_reported_in_place.ensures.chosen reading choice before after item
    (record {
      written = written;
      chosen = chosen;
      reads = record { applies_to = refl; perms = refl; target = refl; marks = refl };
    }) (λ exact. isnt (sym same ∙ exact)) in
    let spans = m.spans ∙ ap (λ (x : List ItemValue). (cut_of reading choice x).spans) parted in
    (found.0, subst (λ (x : List Span). Contains x found.0) (sym spans) found.1, found.2, found.3 ∙ same)

pub returns-clause-other : goal.returns-clause-other
returns-clause-other c options text value rules mode m before after item parted inside isnt =
    let choice = choice_of options m.head m.number in
    let reading = item_reading (variables_of options m.items m.head) options.subject in
    let rule = shape_of (subject_rule (variables_of options m.items m.head) item.parts) in
    let same = told_change options.subject (other_subject options.subject) rule in
    let written = item_there before after item (subst (Each IsItem) parted (c.items_are_the_text.ensures.items text m.items _ m.read)) in
    let chosen = c.chosen_rules_are_by_braces.ensures reading choice before item ∙ inside in
    let found = c.changes_are_reported_in_place.ensures.other reading choice before after item
    (record {
      written = written;
      chosen = chosen;
      reads = record { applies_to = refl; perms = refl; target = refl; marks = refl };
    }) (λ exact. isnt (sym same ∙ exact)) in
    let spans = m.spans ∙ ap (λ (x : List ItemValue). (cut_of reading choice x).spans) parted in
    (found.0, subst (λ (x : List Span). Contains x found.0) (sym spans) found.1, found.2, found.3 ∙ same)
