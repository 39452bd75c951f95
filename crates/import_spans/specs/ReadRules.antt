-- Rules of the chosen profile, and what is reported of the spans that their text is cut into.
use Rattle.std.specs.Prelude.{◌≡◌, ◌≤◌, ◌+◌, List, length, is_some, true}
use Rattle.apparmor_text.specs.SoundItems.{IsItem}
use Rattle.apparmor_text.specs.Parts.{PartValue, ItemValue, bytes_of_items, bytes_of_parts}
use Rattle.apparmor_rules.specs.RuleParts.{marks_of}
use Rattle.apparmor_rules.specs.RuleWords.{applies_to_of, perms_of_rule, target_of}
use Rattle.apparmor_rules.specs.declared.effect.Extent.{Extent}
use Rattle.apparmor_rules.specs.declared.effect.Extent.TheVariants.{Exact}
use Rattle.apparmor_rules.specs.declared.effect.Effect.{Effect}
use Rattle.import_spans.specs.declared.context.Choice.{Choice}
use Rattle.import_spans.specs.declared.context.RuleReading.{RuleReading}
use Rattle.import_spans.specs.declared.span.Span.{Span}
use Rattle.import_spans.specs.declared.span.SpanKind.{SpanKind}
use Rattle.import_spans.specs.declared.span.SpanKind.TheVariants.{Kept, Blank, Told}
use Rattle.import_spans.specs.CutStates.{at_start}
use Rattle.import_spans.specs.Cuts.{is_chosen_rule, cut_items}

-- what is reported of a span, of the two changes of an effect this one
abbrev pub told_of : (Effect → Extent) → SpanKind → Extent
told_of on Kept = Exact
told_of on Blank = Exact
told_of on (Told t) = on t.effect

-- the change that is reported for the chosen subject
abbrev pub change_told : SpanKind → Extent
change_told kind = told_of (λ effect. effect.on_chosen) kind

-- and that for the other one
abbrev pub change_told_to_other : SpanKind → Extent
change_told_to_other kind = told_of (λ effect. effect.on_other) kind

-- the span is within the bytes of this item, which follows those
abbrev pub IsWithin : List ItemValue → ItemValue → Span → Type 0
IsWithin before item span =
    (length (bytes_of_items before) ≤ span.start)
    × (span.end ≤ length (bytes_of_items before) + length (bytes_of_parts item.parts))

-- it is a reading of a rule of these parts
pub record IsReadingOf (parts : List PartValue) (reading : RuleReading) : Type 0 where
  pub applies_to : reading.shape.applies_to ≡ applies_to_of parts
  pub perms : reading.shape.perms ≡ perms_of_rule parts
  pub target : reading.shape.has_target ≡ is_some (target_of parts)
  pub marks : reading.marks ≡ marks_of reading.marks.pattern parts

-- after these items this one is a rule of the chosen profile, and it is read as it is written
pub record IsReadRule (reading : ItemValue → RuleReading) (choice : Choice) (before : List ItemValue) (item : ItemValue) : Type 0 where
  pub written : IsItem item
  pub chosen : is_chosen_rule item (cut_items reading before (at_start choice)) ≡ true
  pub reads : IsReadingOf item.parts (reading item)
