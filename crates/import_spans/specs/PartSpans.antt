-- What becomes of a single part of a text for one of its profiles (our choice), and what is reported of it.
use Rattle.std.specs.Prelude.{ℕ, List, [], ◌∷◌, ◌==◌, length, Some, None, Bool, true, false, if◌then◌else◌}
use Rattle.std.specs.List.{flat_map, list_any}
use Rattle.names.specs.declared.permissions.Permission.TheVariants.{Write}
use Rattle.names.specs.Permissions.{only}
use Rattle.rule_reader.specs.ReadWords.{word}
use Rattle.names.specs.declared.kind.RuleKind.TheVariants.{Allow}
use Rattle.apparmor_text.specs.declared.part.PartKind.{PartKind}
use Rattle.apparmor_text.specs.declared.part.PartKind.TheVariants as kinds
use Rattle.apparmor_text.specs.Parts.{PartValue}
use Rattle.apparmor_rules.specs.RuleParts.{part_whats, part_effect, no_effect}
use Rattle.apparmor_rules.specs.declared.what.What.{What}
use Rattle.apparmor_rules.specs.declared.what.What.TheVariants as whats
use Rattle.apparmor_rules.specs.Whats.{statement_what}
use Rattle.apparmor_rules.specs.declared.effect.Extent.TheVariants.{Wider}
use Rattle.apparmor_rules.specs.declared.effect.Effect.{Effect}
use Rattle.apparmor_rules.specs.declared.shape.RuleShape.{RuleShape}
use Rattle.apparmor_rules.specs.declared.subject.AppliesTo.TheVariants.{Owners}
use Rattle.apparmor_rules.specs.declared.subject.Subject.{Subject}
use Rattle.apparmor_rules.specs.declared.subject.Subject.TheVariants.{Owner, Other}
use Rattle.apparmor_rules.specs.Changes.{effect, mode_effect}
use Rattle.import_spans.specs.declared.context.RuleReading.{RuleReading}
use Rattle.import_spans.specs.declared.span.SpanKind.{SpanKind}
use Rattle.import_spans.specs.declared.span.SpanKind.TheVariants.{Kept, Blank, Told}
use Rattle.import_spans.specs.declared.reports.PartTelling.{PartTelling}
use Rattle.import_spans.specs.declared.reports.PartTelling.TheVariants.{Plain, OfHead, OfRule}
use Rattle.import_spans.specs.Modes.{mode_of_flags}

abbrev pub told : List What → Effect → SpanKind
told all effect = Told (record { whats = all; effect = effect })

-- ---- what AppArmor adds

-- To a profile with hats, or with a rule change_profile, apparmor_parser adds rules by which owners may write some files in
-- /proc, and not append to them. They are restated with w, which holds append, too (our choice).
abbrev pub added_rule : RuleShape
added_rule = record { kind = Allow; applies_to = Owners; perms = only Write; has_target = false; is_read = true; has_priority = false }

-- what restating them changes: who is restated for may append there, too
abbrev pub added_effect : Subject → Effect
added_effect Owner = record { chosen = Owner; on_chosen = Wider; on_other = Wider }
added_effect Other = effect Other added_rule

-- ---- statements

-- what a statement with these bytes is reported by; one that begins with no known word is a boolean
abbrev pub what_of_statement : List ℕ → What
what_of_statement bytes = elim (statement_what (word bytes)) [ None ↦ whats.Boolean | Some what ↦ what ]

abbrev pub statement_part_whats : PartKind → List ℕ → List What
statement_part_whats kinds.Audit bytes = whats.Audit ∷ []
statement_part_whats kinds.Priority bytes = whats.Priority ∷ []
statement_part_whats kinds.Owner bytes = whats.Owner ∷ []
statement_part_whats kinds.Other bytes = whats.Other ∷ []
statement_part_whats kinds.Statement bytes = what_of_statement bytes ∷ []
statement_part_whats _ bytes = []

-- what is reported of a statement of these parts
abbrev pub statement_whats : List PartValue → List What
statement_whats parts = flat_map (λ p. statement_part_whats p.kind p.bytes) parts

abbrev pub is_change : What → Bool
is_change whats.ChangeProfile = true
is_change _ = false

-- it is a rule change_profile
abbrev pub changes_profile : List What → Bool
changes_profile all = list_any is_change all

abbrev pub statement_effect : Subject → List What → Effect
statement_effect chosen all = if changes_profile all then added_effect chosen else no_effect chosen

-- ---- parts that each are a span

-- one that isn't reported
abbrev pub plain_kind : PartKind → SpanKind
plain_kind kinds.Blank = Blank
plain_kind _ = Kept

-- one of the chosen profile's head
abbrev pub head_kind : Subject → PartKind → List ℕ → SpanKind
head_kind chosen kinds.Flags bytes = told (whats.Flags ∷ []) (mode_effect chosen (mode_of_flags bytes))
head_kind chosen kinds.Xattrs bytes = told (whats.Xattrs ∷ []) (no_effect chosen)
head_kind chosen kinds.Hat bytes = told (whats.Implied ∷ []) (added_effect chosen)
head_kind chosen kind bytes = plain_kind kind

-- one of a rule that stays
abbrev pub rule_kind : Subject → RuleReading → PartKind → SpanKind
rule_kind chosen reading kind =
    if length (part_whats reading.marks kind) == 0 then plain_kind kind
    else told (part_whats reading.marks kind) (part_effect chosen reading.shape kind)

abbrev pub part_kind : PartTelling → Subject → PartValue → SpanKind
part_kind Plain chosen p = plain_kind p.kind
part_kind OfHead chosen p = head_kind chosen p.kind p.bytes
part_kind (OfRule reading) chosen p = rule_kind chosen reading p.kind
