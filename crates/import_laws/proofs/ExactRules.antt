-- What holds of the changes that are reported for all spans holds of the change of each rule of the text in the chosen profile.
use Rattle.std.proofs.Common.{◌≡◌, Bool, true, false, cond, List, [], ◌∷◌, ◌++◌, refl, sym, subst, append_assoc}
use Rattle.std.specs.List.{All}
use Rattle.std.proofs.lemmas.List.Elements.{All-cons, All-nil}
use Rattle.rule_globs.specs.Each.{Each}
use Rattle.apparmor_text.specs.SoundItems.{IsItem}
use Rattle.apparmor_text.specs.Parts.{ItemValue}
use Rattle.apparmor_variables.specs.Variables.{Variable}
use Rattle.apparmor_rules.specs.declared.effect.Extent.{Extent}
use Rattle.apparmor_rules.specs.declared.effect.Effect.{Effect}
use Rattle.apparmor_rules.specs.declared.subject.Subject.{Subject}
use Rattle.apparmor_rules.specs.Changes.{change}
use Rattle.apparmor_rules.specs.Restatement.{shape_of}
use Rattle.apparmor_rules.specs.SubjectRules.{SubjectRule}
use Rattle.import_spans.specs.declared.context.Choice.{Choice}
use Rattle.import_spans.specs.declared.context.RuleReading.{RuleReading}
use Rattle.import_spans.specs.CutStates.{CutState, at_start}
use Rattle.import_spans.specs.Cuts.{cut_item, cut_items, cut_of, is_chosen_rule}
use Rattle.import_spans.specs.ReadRules.{IsReadRule}
use Rattle.import_profile.specs.FileRules.{PlacedRule, item_reading, rules_at, rules_in, subject_rule}
use Rattle.import_profile.proofs.ToldShapes.{told_change}
use Rattle.import_laws.specs.Imported.{plain_rules}
use Rattle.import_laws.proofs.EachAdded.{each_of_both}
use Rattle.import_laws.proofs.SpansBefore.{Tells}

one_then : (reading : ItemValue → RuleReading) (before : List ItemValue) (item : ItemValue) (s : CutState)
    → cut_items reading (before ++ (item ∷ [])) s ≡ cut_item (reading item) item (cut_items reading before s)
one_then reading [] item s = refl
one_then reading (first ∷ before) item s = one_then reading before item (cut_item (reading first) first s)

pub all_plain : (P : SubjectRule → Type 0) (rules : List PlacedRule) → Each (λ r. P r.rule) rules → All P (plain_rules rules)
all_plain P [] h = All-nil P
all_plain P (r ∷ rules) h = All-cons P r.rule (plain_rules rules) h.0 (all_plain P rules h.1)

-- by the change that is read off an effect, for a subject
module _ (on : Effect → Extent) (subject : Subject) (R : Extent → Type 0) (variables : List Variable) (choice : Choice) where
  abbrev reading : ItemValue → RuleReading
  reading item = item_reading variables choice.subject item

  abbrev IsTold : PlacedRule → Type 0
  IsTold r = R (change choice.subject subject (shape_of r.rule))

  -- the law of the rules of a text
  abbrev pub RulesAreTold : Type 0
  RulesAreTold = (before after : List ItemValue) (item : ItemValue) → IsReadRule reading choice before item
      → Tells on R (cut_of reading choice (before ++ (item ∷ after))).spans → R (change choice.subject subject (reading item).shape)

  module _ (law : RulesAreTold) where
    rules_told : (before items : List ItemValue) → Each IsItem items → Tells on R (cut_of reading choice (before ++ items)).spans
        → Each IsTold (rules_in variables choice.subject items (cut_items reading before (at_start choice)))
    rules_told before [] whole h = tt
    rules_told before (item ∷ items) whole h =
        let s = cut_items reading before (at_start choice) in
        let later = rules_told (before ++ (item ∷ [])) items whole.1
        (subst (λ (x : List ItemValue). Tells on R (cut_of reading choice x).spans) (sym (append_assoc before (item ∷ []) items)) h) in
        each_of_both IsTold (rules_at variables item s) (rules_in variables choice.subject items (cut_item (reading item) item s))
        (here (is_chosen_rule item s) refl)
        (subst (λ (t : CutState). Each IsTold (rules_in variables choice.subject items t))
        (one_then reading before item (at_start choice)) later)
      where
        here : (b : Bool) → is_chosen_rule item (cut_items reading before (at_start choice)) ≡ b
            → Each IsTold (cond b (record {
              place = (cut_items reading before (at_start choice)).at;
              rule =
                  subject_rule variables item.parts;
            } ∷ []) [])
        here true e = (
          subst R (told_change choice.subject subject (shape_of (subject_rule variables item.parts)))
              (law before items item
              (record {
                written = whole.0;
                chosen = e;
                reads = record { applies_to = refl; perms = refl; target = refl; marks = refl };
              }) h),
          tt,
        )
        here false e = tt

    -- what is said of the rules of a text, and of those that are added to it, holds of all
    pub all_told : (items : List ItemValue) (added : List PlacedRule) → Each IsItem items → Tells on R (cut_of reading choice items).spans
        → Each IsTold added → All (λ rule. R (change choice.subject subject (shape_of rule)))
        (plain_rules (rules_in variables choice.subject items (at_start choice) ++ added))
    all_told items added whole h added_told =
        all_plain (λ (rule : SubjectRule). R (change choice.subject subject (shape_of rule)))
        (rules_in variables choice.subject items (at_start choice) ++ added)
        (each_of_both IsTold (rules_in variables choice.subject items (at_start choice)) added (rules_told [] items whole h) added_told)
