-- What a rule changes for a subject is reported of some span within its bytes.
use Rattle.std.proofs.Common.{◌≡◌, ◌⊎◌, ℕ, ◌+◌, ◌≤◌, ◌<◌, ◌==◌, Bool, true, false, not, ◌&&◌, ◌||◌, cond, List, [], ◌∷◌, ◌++◌, length}
use Rattle.std.proofs.Common.{Option, Some, None}
use Rattle.std.proofs.Common.{is_some, find, inl, inr, refl, sym, ap, ◌∙◌, subst, true≢false, arith}
use Rattle.std.proofs.lemmas.Bool.{eqb-true, and_parts, cases_Bool, or_cases}
use Rattle.std.proofs.lemmas.List.{length-append}
use Rattle.std.proofs.lemmas.List.Elements.{Contains-append_left, Contains-append_right, Contains-push}
use Rattle.std.specs.List.{Contains}
use Rattle.std.specs.Prelude.{option_map}
use Rattle.names.specs.declared.permissions.Permission.TheVariants.{Link}
use Rattle.names.specs.declared.permissions.Perms.{Perms}
use Rattle.names.specs.Permissions.{has, only, set_of}
use Rattle.names.specs.laws.PermissionSets.{one_found}
use Rattle.rule_globs.specs.Each.{Each}
use Rattle.apparmor_text.specs.declared.part.PartKind.{PartKind}
use Rattle.apparmor_text.specs.declared.part.PartKind.TheVariants as kinds
use Rattle.apparmor_text.specs.SoundItems.{IsPart, IsItem}
use Rattle.apparmor_text.specs.Parts.{PartValue, ItemValue, bytes_of_parts}
use Rattle.apparmor_rules.specs.declared.marks.Marks.{Marks}
use Rattle.apparmor_rules.specs.RuleParts.{if_so, rule_whats}
use Rattle.apparmor_rules.specs.RuleWords.{applies_to_of, first_bytes, has_part, is_arrow_part, is_link, is_other}
use Rattle.apparmor_rules.specs.RuleWords.{is_owner, is_permissions}
use Rattle.apparmor_rules.specs.RuleWords.{letters_in, may_bind_link}
use Rattle.apparmor_rules.specs.RuleWords.{perms_of_rule, target_of, target_text}
use Rattle.apparmor_rules.specs.declared.what.What.TheVariants as whats
use Rattle.apparmor_rules.specs.declared.effect.Extent.{Extent}
use Rattle.apparmor_rules.specs.declared.effect.Extent.TheVariants.{Exact}
use Rattle.apparmor_rules.specs.declared.effect.Effect.{Effect}
use Rattle.apparmor_rules.specs.declared.shape.RuleShape.{RuleShape}
use Rattle.apparmor_rules.specs.declared.subject.AppliesTo.{AppliesTo}
use Rattle.apparmor_rules.specs.declared.subject.AppliesTo.TheVariants.{Everybody, Others, Owners}
use Rattle.apparmor_rules.specs.declared.subject.Subject.{Subject}
use Rattle.apparmor_rules.specs.Changes.{change, effect, for_everybody, gained, lost, left_out_change, qualifier_alone}
use Rattle.apparmor_rules.specs.Restatement.{can_be_said, has_some, is_restated, loses_link, restated_perms}
use Rattle.apparmor_rules.specs.Subjects.{applies_to}
use Rattle.apparmor_rules.specs.laws.RestatedPerms.{held_before, some_held}
use Rattle.import_spans.specs.declared.context.RuleReading.{RuleReading}
use Rattle.import_spans.specs.declared.span.Span.{Span}
use Rattle.import_spans.specs.declared.span.SpanKind.{SpanKind}
use Rattle.import_spans.specs.declared.reports.PartTelling.{PartTelling}
use Rattle.import_spans.specs.declared.reports.PartTelling.TheVariants.{OfRule}
use Rattle.import_spans.specs.PartSpans.{told, plain_kind, rule_kind, part_kind}
use Rattle.import_spans.specs.CutStates.{CutState, pass, put, passed, put_item, put_parts}
use Rattle.import_spans.specs.Cuts.{chosen_rule}
use Rattle.import_spans.specs.ReadRules.{told_of, IsReadingOf}
use Rattle.import_spans.proofs.SpanLists.{one_more}
use Rattle.import_spans.proofs.CutSteps.{put_settles}

-- ---- arrows

is_arrow : (kind : PartKind) → is_arrow_part kind ≡ true → kind ≡ kinds.Arrow
is_arrow kinds.Arrow e = refl
is_arrow _ e = absurd cc

some_part : (test : PartKind → Bool) (parts : List PartValue) → is_some (find (λ p. test p.kind) parts) ≡ true → has_part test parts ≡ true
some_part test [] e = e
some_part test (p ∷ parts) e = at (test p.kind) (λ h. some_part test parts h) e
  where
    at : (b : Bool) → (is_some (find (λ q. test q.kind) parts) ≡ true → has_part test parts ≡ true)
        → is_some (cond b (Some p) (find (λ q. test q.kind) parts)) ≡ true → (b || has_part test parts) ≡ true
    at true others e = refl
    at false others e = others e

some_mapped : {A C : Type 0} (f : A → C) (o : Option A) → is_some (option_map f o) ≡ true → is_some o ≡ true
some_mapped f None e = e
some_mapped f (Some x) e = refl

-- where there is a target, there is an arrow, which binds it
bound : (parts : List PartValue) → is_some (target_of parts) ≡ true → (may_bind_link parts ≡ true) × (has_part is_arrow_part parts ≡ true)
bound parts e = at (may_bind_link parts) refl e
  where
    at : (b : Bool) → may_bind_link parts ≡ b → is_some (cond b (option_map target_text (first_bytes is_arrow_part parts)) None) ≡ true
        → (may_bind_link parts ≡ true) × (has_part is_arrow_part parts ≡ true)
    at true is e = (
      is,
      some_part is_arrow_part parts (some_mapped (λ (p : PartValue). p.bytes) (find (λ p. is_arrow_part p.kind) parts)
          (some_mapped target_text (first_bytes is_arrow_part parts) e)),
    )
    at false is e = absurd cc

or_right : (a b : Bool) → b ≡ true → (a || b) ≡ true
or_right true b h = refl
or_right false b h = h

-- a rule for owners or for others alone has a part that says so
abbrev is_qualifier : PartKind → Bool
is_qualifier kinds.Owner = true
is_qualifier kinds.Other = true
is_qualifier _ = false

qualified : (parts : List PartValue) (subject : Subject) → applies_to (applies_to_of parts) subject ≡ false →
    has_part is_qualifier parts ≡ true
qualified parts subject e = at (has_part is_owner parts) (has_part is_other parts) refl refl e
  where
    more_kinds : (test : PartKind → Bool) → ((kind : PartKind) → test kind ≡ true → is_qualifier kind ≡ true) → (parts : List PartValue) →
        has_part test parts ≡ true → has_part is_qualifier parts ≡ true
    more_kinds test more [] there = there
    more_kinds test more (p ∷ parts) there = elim (or_cases (test p.kind) (has_part test parts) there) [
      | inl here ↦ rw (more p.kind here) refl
      | inr later ↦ or_right (is_qualifier p.kind) (has_part is_qualifier parts) (more_kinds test more parts later)
    ]

    of_owner : (kind : PartKind) → is_owner kind ≡ true → is_qualifier kind ≡ true
    of_owner kinds.Owner h = refl
    of_owner _ h = absurd cc

    of_other : (kind : PartKind) → is_other kind ≡ true → is_qualifier kind ≡ true
    of_other kinds.Other h = refl
    of_other _ h = absurd cc

    at : (owner other : Bool) → has_part is_owner parts ≡ owner → has_part is_other parts ≡ other →
        applies_to (cond owner Owners (cond other Others Everybody)) subject ≡ false → has_part is_qualifier parts ≡ true
    at true other o t e = more_kinds is_owner of_owner parts o
    at false true o t e = more_kinds is_other of_other parts t
    at false false o t e = absurd cc

-- ---- what changes

-- what is reported of parts and rules, for the subject whose change is read off the effects
module _ (on : Effect → Extent) (chosen subject : Subject)
    (reads_off : (shape : RuleShape) → on (effect chosen shape) ≡ change chosen subject shape) where
  -- the change that is reported for an arrow that binds a target
  arrow_told : (reading : RuleReading) → reading.marks.link ≡ false → reading.marks.binds ≡ true
      → told_of on (rule_kind chosen reading kinds.Arrow) ≡ change chosen subject (for_everybody reading.shape)
  arrow_told reading no_link binds = at reading.marks.link reading.marks.binds no_link binds
    where
      at : (link binds : Bool) → link ≡ false → binds ≡ true
          → told_of on (cond (length (if_so (not link && binds) whats.Link ++ if_so (not link && not binds) whats.Target) == 0)
          (plain_kind kinds.Arrow) (told (if_so (not link && binds) whats.Link ++ if_so (not link && not binds) whats.Target)
          (effect chosen (for_everybody reading.shape))))
          ≡ change chosen subject (for_everybody reading.shape)
      at false true no_link binds = reads_off (for_everybody reading.shape)
      at true binds no_link is = absurd cc
      at false false no_link is = absurd cc

  -- and for a qualifier
  qualifier_told : (reading : RuleReading) (kind : PartKind) → is_qualifier kind ≡ true
      → told_of on (rule_kind chosen reading kind) ≡ change chosen subject (qualifier_alone reading.shape)
  qualifier_told reading kinds.Owner e = reads_off (qualifier_alone reading.shape)
  qualifier_told reading kinds.Other e = reads_off (qualifier_alone reading.shape)
  qualifier_told reading _ e = absurd cc

-- a rule that stays changes for a subject that it applies to what it would change for everybody, or nothing
stays : (chosen subject : Subject) (shape : RuleShape) → is_restated chosen shape ≡ true → applies_to shape.applies_to subject ≡ true →
    (change chosen subject (for_everybody shape) ≡ change chosen subject shape)
    × (loses_link shape ≡ false → change chosen subject shape ≡ Exact)
stays chosen subject shape e to = at (applies_to shape.applies_to chosen) (can_be_said shape)
    (has_some (restated_perms shape.perms shape.has_target)) (applies_to shape.applies_to subject) (loses_link shape)
    (left_out_change subject (for_everybody shape)) (left_out_change subject shape) e to
  where
    at : (a r l s link : Bool) (m n : Extent) → (a && r && l) ≡ true → s ≡ true
        → (cond (true && r && l) (cond link (lost shape.kind) Exact) m ≡ cond (a && r && l)
        (cond (not s) (gained shape.kind) (cond link (lost shape.kind) Exact)) n)
        × (link ≡ false → cond (a && r && l) (cond (not s) (gained shape.kind) (cond link (lost shape.kind) Exact)) n ≡ Exact)
    at true true true true true m n e to = (refl, λ f. absurd (true≢false f))
    at true true true true false m n e to = (refl, λ f. refl)
    at true true true false link m n e to = absurd cc
    at true true false s link m n e to = absurd cc
    at true false l s link m n e to = absurd cc
    at false r l s link m n e to = absurd cc

-- for one that it doesn't apply to, what its qualifier changes
gains : (chosen subject : Subject) (shape : RuleShape) → is_restated chosen shape ≡ true → applies_to shape.applies_to subject ≡ false →
    has_some shape.perms ≡ true → change chosen subject (qualifier_alone shape) ≡ change chosen subject shape
gains chosen subject shape e to some = at (applies_to shape.applies_to chosen) (can_be_said shape)
    (has_some (restated_perms shape.perms shape.has_target)) (has_some shape.perms) (applies_to shape.applies_to subject)
    (cond (loses_link shape) (lost shape.kind) Exact) (left_out_change subject (qualifier_alone shape)) (left_out_change subject shape)
    e to some
  where
    at : (a r l h s : Bool) (kept m n : Extent) → (a && r && l) ≡ true → s ≡ false → h ≡ true
        → cond (a && true && h) (cond (not s) (gained shape.kind) Exact) m ≡ cond (a && r && l) (cond (not s) (gained shape.kind) kept) n
    at true true true true false kept m n e to some = refl
    at true true true true true kept m n e to some = absurd cc
    at true true true false s kept m n e to some = absurd cc
    at true true false h s kept m n e to some = absurd cc
    at true false l h s kept m n e to some = absurd cc
    at false r l h s kept m n e to some = absurd cc

-- after the word link, with a target, nothing stays
no_link_stays : (perms : Perms) (parts : List PartValue) → perms ≡ perms_of_rule parts → has_part is_link parts ≡ true
    → has_some (restated_perms perms true) ≡ false
no_link_stays perms parts is there =
    let only_link : perms ≡ only Link = is ∙ first (has_part is_link parts) (cond (has_part is_permissions parts) (letters_in parts).perms
    (set_of (λ p. true))) there in
    ap (λ (p : Perms). has_some (restated_perms p true)) only_link
  where
    first : (b : Bool) (others : Perms) → b ≡ true → cond b (only Link) others ≡ only Link
    first true others e = refl
    first false others e = absurd cc

pub item_bytes : (parts : List PartValue) → 0 < length parts → Each IsPart parts → 0 < length (bytes_of_parts parts)
item_bytes [] some whole = absurd (omega (arith, some))
item_bytes (p ∷ parts) some whole =
    let here = whole.0.some in
    let all = length-append p.bytes (bytes_of_parts parts) in
    omega (arith, here, all)

-- ---- spans

module _ (on : Effect → Extent) (low high : ℕ) (goal : Extent) where
  -- some span from `low` to `high` has this change
  abbrev pub Reported : List Span → Type 0
  Reported spans = (span : Span) × Contains spans span × (low ≤ span.start) × (span.end ≤ high) × (told_of on span.kind ≡ goal)

  pub report_grows : (spans : List Span) (span : Span) → Reported spans → Reported (spans ++ (span ∷ []))
  report_grows spans span r = (r.0, Contains-append_left spans (span ∷ []) r.0 r.1, r.2, r.3, r.4)

  put_grows : (kind : SpanKind) (s : CutState) → Reported s.spans → Reported (put kind s).spans
  put_grows kind s r = at (s.from == s.at)
    where
      at : (b : Bool) → Reported (cond b s (record s { from = s.at; spans = one_more s.from s.at kind s.spans })).spans
      at true = r
      at false = report_grows s.spans (record { start = s.from; end = s.at; kind = kind }) r

  parts_grow : (telling : PartTelling) (parts : List PartValue) (s : CutState) → Reported s.spans →
      Reported (put_parts telling parts s).spans
  parts_grow telling [] s r = r
  parts_grow telling (p ∷ parts) s r =
      let kind = part_kind telling s.choice.subject p in
      let now = pass (length p.bytes) s in
      parts_grow telling parts (put kind now) (put_grows kind now r)

  put_reports : (kind : SpanKind) (s : CutState) → s.from < s.at → low ≤ s.from → s.at ≤ high → told_of on kind ≡ goal →
      Reported (put kind s).spans
  put_reports kind s some after before is = at (s.from == s.at) refl
    where
      at : (b : Bool) → (s.from == s.at) ≡ b →
          Reported (cond b s (record s { from = s.at; spans = one_more s.from s.at kind s.spans })).spans
      at true e = let same = eqb-true s.from s.at e in absurd (omega (arith, some, same))
      at false e =
          let span : Span = record { start = s.from; end = s.at; kind = kind } in
          (span, Contains-append_right s.spans (span ∷ []) span (Contains-push [] span), after, before, is)

  put_keeps : (kind : SpanKind) (s : CutState) → (put kind s).choice ≡ s.choice
  put_keeps kind s = at (s.from == s.at)
    where
      at : (b : Bool) → (cond b s (record s { from = s.at; spans = one_more s.from s.at kind s.spans })).choice ≡ s.choice
      at true = refl
      at false = refl

  put_stays : (kind : SpanKind) (s : CutState) → (put kind s).at ≡ s.at
  put_stays kind s = at (s.from == s.at)
    where
      at : (b : Bool) → (cond b s (record s { from = s.at; spans = one_more s.from s.at kind s.spans })).at ≡ s.at
      at true = refl
      at false = refl

  -- of the parts of a rule, one of such a kind is reported so
  part_in : (test : PartKind → Bool) (chosen : Subject) (reading : RuleReading) →
      ((kind : PartKind) → test kind ≡ true → told_of on (rule_kind chosen reading kind) ≡ goal) →
      (parts : List PartValue) (s : CutState) →
      s.choice.subject ≡ chosen → s.from ≡ s.at → low ≤ s.at → s.at + length (bytes_of_parts parts) ≤ high → Each IsPart parts →
      has_part test parts ≡ true → Reported (put_parts (OfRule reading) parts s).spans
  part_in test chosen reading is_told [] s is e after before whole there = absurd cc
  part_in test chosen reading is_told (p ∷ parts) s is e after before whole there =
      let now = pass (length p.bytes) s in
      let next = put (part_kind (OfRule reading) s.choice.subject p) now in
      let all = length-append p.bytes (bytes_of_parts parts) in
      let place = put_stays (part_kind (OfRule reading) s.choice.subject p) now in
      at (test p.kind) refl there
      (λ later. part_in test chosen reading is_told parts next
      (ap (λ c. c.subject) (put_keeps (part_kind (OfRule reading) s.choice.subject p) now) ∙ is)
      (put_settles (part_kind (OfRule reading) s.choice.subject p) now) (omega (arith, after, place)) (omega (arith, before, place, all))
      whole.1 later)
    where
      at : (b : Bool) → test p.kind ≡ b → (b || has_part test parts) ≡ true
          → (has_part test parts ≡ true → Reported (put_parts (OfRule reading) (p ∷ parts) s).spans) →
          Reported (put_parts (OfRule reading) (p ∷ parts) s).spans
      at true here there others =
          let some = whole.0.some in
          let all = length-append p.bytes (bytes_of_parts parts) in
          let now = pass (length p.bytes) s in
          parts_grow (OfRule reading) parts (put (part_kind (OfRule reading) s.choice.subject p) now)
          (put_reports (part_kind (OfRule reading) s.choice.subject p) now (omega (arith, some, e)) (omega (arith, after, e))
          (omega (arith, before, all))
          (subst (λ (x : Subject). told_of on (rule_kind x reading p.kind) ≡ goal) (sym is) (is_told p.kind here)))
      at false here there others = others there

-- ---- rules

module _ (on : Effect → Extent) (chosen subject : Subject)
    (reads_off : (shape : RuleShape) → on (effect chosen shape) ≡ change chosen subject shape) where
  -- a rule is exact, or its change is reported within its bytes
  pub rule_reported : (reading : RuleReading) (item : ItemValue) (s : CutState) → s.choice.subject ≡ chosen → IsItem item →
      IsReadingOf item.parts reading → s.from ≡ s.at → (change chosen subject reading.shape ≡ Exact)
      ⊎ Reported on s.at (s.at + length (bytes_of_parts item.parts)) (change chosen subject reading.shape)
      (chosen_rule reading item s).spans
  unfolding chosen_rule
  rule_reported reading item s is whole reads e = at (is_restated s.choice.subject reading.shape) refl
    where
      by_qualifier : is_restated chosen reading.shape ≡ true → applies_to reading.shape.applies_to subject ≡ false →
          Reported on s.at (s.at + length (bytes_of_parts item.parts)) (change chosen subject reading.shape)
          (put_parts (OfRule reading) item.parts s).spans
      by_qualifier stay not_to =
          let left = (and_parts (applies_to reading.shape.applies_to chosen && can_be_said reading.shape)
          (has_some (restated_perms reading.shape.perms reading.shape.has_target)) stay).1 in
          let some = one_found (has (restated_perms reading.shape.perms reading.shape.has_target)) left in
          let held = some_held reading.shape.perms some.0
          (held_before reading.shape.perms reading.shape.has_target some.0 some.1) in
          let same = gains chosen subject reading.shape stay not_to held in
          part_in on s.at (s.at + length (bytes_of_parts item.parts)) (change chosen subject reading.shape) is_qualifier chosen reading
          (λ kind h. qualifier_told on chosen subject reads_off reading kind h ∙ same) item.parts s is e (omega arith) (omega arith)
          whole.parts (qualified item.parts subject (ap (λ (x : AppliesTo). applies_to x subject) (sym reads.applies_to) ∙ not_to))

      by_arrow : is_restated chosen reading.shape ≡ true → applies_to reading.shape.applies_to subject ≡ true →
          loses_link reading.shape ≡ true → Reported on s.at (s.at + length (bytes_of_parts item.parts))
          (change chosen subject reading.shape) (put_parts (OfRule reading) item.parts s).spans
      by_arrow stay to loses =
          let both = and_parts reading.shape.has_target (has reading.shape.perms Link) loses in
          let arrow = bound item.parts (sym reads.target ∙ both.0) in
          let binds : reading.marks.binds ≡ true = ap (λ (m : Marks). m.binds) reads.marks ∙ arrow.0 in
          let left : has_some (restated_perms reading.shape.perms true) ≡ true =
          subst (λ (b : Bool). has_some (restated_perms reading.shape.perms b) ≡ true) both.0
          (and_parts (applies_to reading.shape.applies_to chosen && can_be_said reading.shape)
          (has_some (restated_perms reading.shape.perms reading.shape.has_target)) stay).1 in
          let no_link : reading.marks.link ≡ false = ap (λ (m : Marks). m.link) reads.marks
          ∙ elim (cases_Bool (has_part is_link item.parts)) [
            | inl link ↦ absurd (true≢false (sym left ∙ no_link_stays reading.shape.perms item.parts reads.perms link))
            | inr none ↦ none
          ] in
          let told = arrow_told on chosen subject reads_off reading no_link binds ∙ (stays chosen subject reading.shape stay to).0 in
          part_in on s.at (s.at + length (bytes_of_parts item.parts)) (change chosen subject reading.shape) is_arrow_part chosen reading
          (λ kind h. ap (λ (k : PartKind). told_of on (rule_kind chosen reading k)) (is_arrow kind h) ∙ told) item.parts s is e
          (omega arith) (omega arith) whole.parts arrow.1

      at : (b : Bool) → is_restated s.choice.subject reading.shape ≡ b
          → (change chosen subject reading.shape ≡ Exact) ⊎ Reported on s.at (s.at + length (bytes_of_parts item.parts))
          (change chosen subject reading.shape) (cond b (put_parts (OfRule reading) item.parts s)
          (put_item (told (rule_whats reading.marks item.parts) (effect s.choice.subject reading.shape)) item s)).spans
      at true stays_there =
          let stay : is_restated chosen reading.shape ≡ true =
          ap (λ (x : Subject). is_restated x reading.shape) (sym is) ∙ stays_there in
          elim (cases_Bool (applies_to reading.shape.applies_to subject)) [
            | inr not_to ↦ inr (by_qualifier stay not_to)
            | inl to ↦ elim (cases_Bool (loses_link reading.shape)) [
              | inl loses ↦ inr (by_arrow stay to loses)
              | inr keeps ↦ inl ((stays chosen subject reading.shape stay to).1 keeps)
            ]
          ]
      at false isnt =
          let some = item_bytes item.parts whole.some whole.parts in
          inr (put_reports on s.at (s.at + length (bytes_of_parts item.parts)) (change chosen subject reading.shape)
          (told (rule_whats reading.marks item.parts) (effect s.choice.subject reading.shape)) (passed item s) (omega (arith, some, e))
          (omega (arith, e)) (omega arith)
          (ap (λ (x : Subject). on (effect x reading.shape)) is ∙ reads_off reading.shape))
