-- A rule of the chosen profile that isn't exact is reported so within its bytes; and what holds of the changes that are reported for
-- all spans of a text holds of the change of each such rule.
use Rattle.std.proofs.Common.{◌≡◌, ◌≢◌, ◌⊎◌, inl, inr, ℕ, ◌+◌, Bool, cond, List, [], ◌∷◌, ◌++◌, length, refl}
use Rattle.std.proofs.Common.{sym, ap, subst, ⊎_elim, arith}
use Rattle.std.specs.List.{Contains}
use Rattle.std.proofs.lemmas.List.Elements.{Contains-append_cases, Contains-push_cases}
use Rattle.rule_globs.specs.Each.{Each}
use Rattle.apparmor_text.specs.Parts.{ItemValue, bytes_of_parts, bytes_of_items}
use Rattle.apparmor_rules.specs.declared.effect.Extent.{Extent}
use Rattle.apparmor_rules.specs.declared.effect.Extent.TheVariants.{Exact}
use Rattle.apparmor_rules.specs.declared.effect.Effect.{Effect}
use Rattle.apparmor_rules.specs.declared.shape.RuleShape.{RuleShape}
use Rattle.apparmor_rules.specs.declared.subject.Subject.{Subject}
use Rattle.apparmor_rules.specs.Changes.{change, effect}
use Rattle.apparmor_rules.specs.Subjects.{other_subject}
use Rattle.import_spans.specs.declared.context.Choice.{Choice}
use Rattle.import_spans.specs.declared.context.RuleReading.{RuleReading}
use Rattle.import_spans.specs.declared.span.Span.{Span}
use Rattle.import_spans.specs.CutStates.{CutState, at_start}
use Rattle.import_spans.specs.Cuts.{chosen_rule, plain_item, cut_item, cut_items, cut_of, finished}
use Rattle.import_spans.specs.ReadRules.{told_of, IsReadRule, IsWithin}
use Rattle.import_spans.proofs.CutSteps.{Good, settled_there, items_go}
use Rattle.import_spans.proofs.ToldRules.{Reported, report_grows, rule_reported}
use Rattle.import_spans.proofs.WholeCuts.{start_is_good, all_go, end_is_fine}

items_then : (reading : ItemValue → RuleReading) (items others : List ItemValue) (s : CutState)
    → cut_items reading (items ++ others) s ≡ cut_items reading others (cut_items reading items s)
items_then reading [] others s = refl
items_then reading (item ∷ items) others s = items_then reading items others (cut_item (reading item) item s)

none_in_nothing : {A : Type 0} (x : A) → Contains [] x → ⊥
none_in_nothing x here = absurd (omega (arith, here.1))

first_or_other : {A : Type 0} (x : A) (xs : List A) (y : A) → Contains (x ∷ xs) y → (x ≡ y) ⊎ Contains xs y
first_or_other x xs y here = ⊎_elim
    (λ h. ⊎_elim (λ none. absurd (none_in_nothing y none)) (λ e. inl e) (Contains-push_cases [] x y h))
    (λ h. inr h)
    (Contains-append_cases (x ∷ []) xs y here)

-- what holds of all elements of a list
each_at : {A : Type 0} (P : A → Type 0) (xs : List A) (x : A) → Each P xs → Contains xs x → P x
each_at P [] x h here = absurd (none_in_nothing x here)
each_at P (y ∷ xs) x h here = elim (first_or_other y xs x here) [
  | inl same ↦ subst P same h.0
  | inr later ↦ each_at P xs x h.1 later
]

module _ (on : Effect → Extent) (subject : Subject) (reading : ItemValue → RuleReading) (choice : Choice)
    (reads_off : (shape : RuleShape) → on (effect choice.subject shape) ≡ change choice.subject subject shape)
    (before after : List ItemValue) (item : ItemValue) (read : IsReadRule reading choice before item) where
  abbrev Goal : Extent
  Goal = change choice.subject subject (reading item).shape

  abbrev place : ℕ
  place = length (bytes_of_items before)

  -- the rule is exact, or its change is reported within its bytes
  abbrev Q : List Span → Type 0
  Q spans = (Goal ≡ Exact) ⊎ Reported on place (place + length (bytes_of_parts item.parts)) Goal spans

  grow : (spans : List Span) (span : Span) → Q spans → Q (spans ++ (span ∷ []))
  grow spans span (inl exact) = inl exact
  grow spans span (inr r) = inr (report_grows on place (place + length (bytes_of_parts item.parts)) Goal spans span r)

  abbrev there : CutState
  there = cut_items reading before (at_start choice)

  abbrev behind : CutState
  behind = cut_item (reading item) item there

  -- before the rule nothing is known of what is reported
  good_there : Good ⊥ (λ _. Unit {0}) (λ _ _ _. tt) choice ([] ++ bytes_of_items before) there
  good_there = all_go ⊥ (λ _. Unit {0}) (λ _ _ _. tt) choice reading before [] (at_start choice) (λ none. absurd none)
      (start_is_good ⊥ (λ _. Unit {0}) (λ _ _ _. tt) choice tt)

  reported_here : Q behind.spans
  reported_here =
      let same : chosen_rule (reading item) item there ≡ behind =
      sym (ap (λ (b : Bool). cond b (chosen_rule (reading item) item there) (plain_item there.phase item there)) read.chosen) in
      let settled = settled_there item there read.chosen good_there.1 in
      let subject_is : there.choice.subject ≡ choice.subject = ap (λ (c : Choice). c.subject) good_there.0.choice in
      let told = rule_reported on choice.subject subject reads_off (reading item) item there subject_is read.written read.reads settled in
      subst (λ (t : CutState). Q t.spans) same
      (subst (λ (n : ℕ). (Goal ≡ Exact) ⊎ Reported on n (n + length (bytes_of_parts item.parts)) Goal
      (chosen_rule (reading item) item there).spans) good_there.0.at told)

  good_behind : Good ⊥ Q grow choice (([] ++ bytes_of_items before) ++ bytes_of_parts item.parts) behind
  good_behind =
      let next = items_go ⊥ (λ _. Unit {0}) (λ _ _ _. tt) choice ([] ++ bytes_of_items before) (reading item) item there
      (λ none. absurd none) good_there in
      let f = next.0 in
      (record { choice = f.choice; at = f.at; covers = f.covers; fits = f.fits; right = f.right; more = reported_here }, next.1)

  pub reported_in_all : Q (cut_of reading choice (before ++ (item ∷ after))).spans
  reported_in_all =
      let front = ([] ++ bytes_of_items before) ++ bytes_of_parts item.parts in
      let rest = all_go ⊥ Q grow choice reading after front behind (λ none. absurd none) good_behind in
      let end = end_is_fine ⊥ Q grow choice (front ++ bytes_of_items after) (cut_items reading after behind) rest in
      subst (λ (t : CutState). Q (finished t).spans) (sym (items_then reading before (item ∷ after) (at_start choice))) end.0.more

  pub reported_there : Goal ≢ Exact → (span : Span) × Contains (cut_of reading choice (before ++ (item ∷ after))).spans span
      × IsWithin before item span × (told_of on span.kind ≡ Goal)
  reported_there isnt = at reported_in_all
    where
      at : Q (cut_of reading choice (before ++ (item ∷ after))).spans →
          (span : Span) × Contains (cut_of reading choice (before ++ (item ∷ after))).spans span
          × IsWithin before item span × (told_of on span.kind ≡ Goal)
      at (inl exact) = absurd (isnt exact)
      at (inr r) = (r.0, r.1, (r.2, r.3), r.4)

  -- so what holds of all changes that are reported holds of the rule's
  pub told_of_all : (R : Extent → Type 0) → R Exact →
      Each (λ (span : Span). R (told_of on span.kind)) (cut_of reading choice (before ++ (item ∷ after))).spans → R Goal
  told_of_all R exact_too h = at reported_in_all
    where
      at : Q (cut_of reading choice (before ++ (item ∷ after))).spans → R Goal
      at (inl exact) = subst R (sym exact) exact_too
      at (inr r) = subst R r.4 (each_at (λ (span : Span). R (told_of on span.kind))
          (cut_of reading choice (before ++ (item ∷ after))).spans r.0 h r.1)

-- ---- what is reported for either subject

pub for_chosen : (chosen : Subject) (shape : RuleShape) → (effect chosen shape).on_chosen ≡ change chosen chosen shape
for_chosen chosen shape = refl

pub for_other : (chosen : Subject) (shape : RuleShape) → (effect chosen shape).on_other ≡ change chosen (other_subject chosen) shape
for_other chosen shape = refl
