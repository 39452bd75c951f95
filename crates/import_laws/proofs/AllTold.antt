-- What holds of the changes that are reported for all spans holds of the change of each rule of an import.
use Rattle.std.proofs.Common.{List}
use Rattle.std.specs.List.{All}
use Rattle.rule_globs.specs.Each.{Each}
use Rattle.apparmor_text.specs.SoundItems.{IsItem}
use Rattle.apparmor_text.specs.Parts.{ItemValue}
use Rattle.apparmor_variables.specs.Variables.{Variable}
use Rattle.apparmor_rules.specs.declared.effect.Extent.{Extent}
use Rattle.apparmor_rules.specs.declared.effect.Effect.{Effect}
use Rattle.apparmor_rules.specs.declared.subject.Subject.{Subject}
use Rattle.apparmor_rules.specs.Changes.{change}
use Rattle.apparmor_rules.specs.Restatement.{shape_of}
use Rattle.import_spans.specs.declared.context.Choice.{Choice}
use Rattle.import_spans.specs.PartSpans.{added_effect, added_rule}
use Rattle.import_profile.specs.AddedRules.{added_rules}
use Rattle.import_profile.specs.FileRules.{item_reading}
use Rattle.import_profile.specs.Restated.{all_rules, cut_for}
use Rattle.import_laws.specs.Imported.{plain_rules}
use Rattle.import_laws.proofs.AddedTold.{added_told}
use Rattle.import_laws.proofs.ExactRules.{RulesAreTold, all_told}
use Rattle.import_laws.proofs.SpansBefore.{Tells}

pub all_rules_told : (on : Effect → Extent) (subject : Subject) (R : Extent → Type 0) (variables : List Variable) (choice : Choice) →
    RulesAreTold on subject R variables choice →
    (R (on (added_effect choice.subject)) → R (change choice.subject subject added_rule)) →
    (items : List ItemValue) → Each IsItem items → Tells on R (cut_for variables choice items).spans
    → All (λ rule. R (change choice.subject subject (shape_of rule))) (plain_rules (all_rules variables choice items))
all_rules_told on subject R variables choice law reads_off items whole h =
    let cut = cut_for variables choice items in
    all_told on subject R variables choice law items (added_rules cut.changes_profile cut.has_hat) whole h
    (added_told on R choice subject reads_off (item_reading variables choice.subject) items whole h)
