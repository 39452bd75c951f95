-- Spans are appended: what holds of all spans at the end held of those before.
use Rattle.std.proofs.Common.{◌≡◌, ◌==◌, Bool, true, false, cond, List, [], ◌∷◌, ◌++◌, length, refl}
use Rattle.std.proofs.lemmas.Bool.{eqb-true}
use Rattle.rule_globs.specs.Each.{Each}
use Rattle.apparmor_text.specs.declared.part.ItemKind.{ItemKind}
use Rattle.apparmor_text.specs.declared.part.ItemKind.TheVariants as items
use Rattle.apparmor_text.specs.Parts.{PartValue, ItemValue}
use Rattle.apparmor_rules.specs.RuleParts.{rule_whats}
use Rattle.apparmor_rules.specs.RuleWords.{has_part}
use Rattle.apparmor_rules.specs.declared.what.What.{What}
use Rattle.apparmor_rules.specs.declared.what.What.TheVariants as whats
use Rattle.apparmor_rules.specs.declared.effect.Extent.{Extent}
use Rattle.apparmor_rules.specs.declared.effect.Effect.{Effect}
use Rattle.apparmor_rules.specs.declared.subject.Subject.{Subject}
use Rattle.apparmor_rules.specs.Changes.{effect}
use Rattle.apparmor_rules.specs.Restatement.{is_restated}
use Rattle.import_spans.specs.declared.cut.Phase.{Phase}
use Rattle.import_spans.specs.declared.cut.Phase.TheVariants.{Outer, Skipping, Chosen}
use Rattle.import_spans.specs.declared.cut.Run.{Run}
use Rattle.import_spans.specs.declared.context.RuleReading.{RuleReading}
use Rattle.import_spans.specs.declared.span.Span.{Span}
use Rattle.import_spans.specs.declared.span.SpanKind.{SpanKind}
use Rattle.import_spans.specs.declared.span.SpanKind.TheVariants.{Kept}
use Rattle.import_spans.specs.PartSpans.{told, plain_kind, head_kind, rule_kind, statement_whats, statement_effect, changes_profile}
use Rattle.import_spans.specs.CutStates.{CutState, pass, put, enter, opened, closed, with_hat, with_change, passed, put_item}
use Rattle.import_spans.specs.Cuts.{run_kind, behind_run, start_run, marked, chosen_head, outer_head, run_head, child_head, run_close}
use Rattle.import_spans.specs.Cuts.{chosen_close, statement_item, chosen_rule, outer_item, run_item, chosen_item, plain_item}
use Rattle.import_spans.specs.Cuts.{is_chosen_rule, is_hat, cut_item, cut_items, rest_kind, finished}
use Rattle.import_spans.specs.ReadRules.{told_of}

-- parts that each are a span, of the kind that this says
abbrev pub put_each : (Subject → PartValue → SpanKind) → List PartValue → CutState → CutState
put_each kind [] s = s
put_each kind (p ∷ parts) s = put_each kind parts (put (kind s.choice.subject p) (pass (length p.bytes) s))

abbrev pub plain_part : Subject → PartValue → SpanKind
plain_part chosen p = plain_kind p.kind

abbrev pub head_part : Subject → PartValue → SpanKind
head_part chosen p = head_kind chosen p.kind p.bytes

abbrev pub rule_part : RuleReading → Subject → PartValue → SpanKind
rule_part reading chosen p = rule_kind chosen reading p.kind

-- with a span of the bytes that are in none
abbrev pub one_more : SpanKind → CutState → CutState
one_more kind s = record s { from = s.at; spans = s.spans ++ (record { start = s.from; end = s.at; kind = kind } ∷ []) }

-- what holds with that span and without it holds
pub put_cases : (P : CutState → Type 0) (kind : SpanKind) (s : CutState) → P s → P (one_more kind s) → P (put kind s)
put_cases P kind s without with = at (s.from == s.at)
  where
    at : (b : Bool) → P (cond b s (one_more kind s))
    at true = without
    at false = with

each_before : {A : Type 0} (P : A → Type 0) (xs : List A) (x : A) → Each P (xs ++ (x ∷ [])) → Each P xs × P x
each_before P [] x h = (tt, h.0)
each_before P (y ∷ xs) x h = let g = each_before P xs x h.1 in ((h.0, g.0), g.1)

module _ (on : Effect → Extent) (R : Extent → Type 0) where
  -- R holds of each change that is reported for these spans
  abbrev pub Tells : List Span → Type 0
  Tells spans = Each (λ (span : Span). R (told_of on span.kind)) spans

  last_told : (kind : SpanKind) (s : CutState) → Tells (one_more kind s).spans → Tells s.spans × R (told_of on kind)
  last_told kind s h = each_before (λ (span : Span). R (told_of on span.kind)) s.spans
      (record { start = s.from; end = s.at; kind = kind }) h

  pub before_put : (kind : SpanKind) (s : CutState) → Tells (put kind s).spans → Tells s.spans
  before_put kind s = put_cases (λ t. Tells t.spans → Tells s.spans) kind s (λ h. h) (λ h. (last_told kind s h).0)

  pub put_is_told : (kind : SpanKind) (s : CutState) → (s.from ≡ s.at → ⊥) → Tells (put kind s).spans → R (told_of on kind)
  put_is_told kind s some h = at (s.from == s.at) refl h
    where
      at : (b : Bool) → (s.from == s.at) ≡ b → Tells (cond b s (one_more kind s)).spans → R (told_of on kind)
      at true e h = absurd (some (eqb-true s.from s.at e))
      at false e h = (last_told kind s h).1

  pub before_parts : (kind : Subject → PartValue → SpanKind) (parts : List PartValue) (s : CutState) →
      Tells (put_each kind parts s).spans → Tells s.spans
  before_parts kind [] s h = h
  before_parts kind (p ∷ parts) s h =
      let this = kind s.choice.subject p in
      let now = pass (length p.bytes) s in
      before_put this now (before_parts kind parts (put this now) h)

  -- ---- heads

  before_run : (begun : What) (item : ItemValue) (s : CutState) → Tells (start_run begun item s).spans → Tells s.spans
  unfolding start_run
  before_run _ item s h = h

  before_marked : (parts : List PartValue) (s : CutState) → Tells (marked parts s).spans → Tells s.spans
  before_marked parts s h = at (has_part is_hat parts) h
    where
      at : (b : Bool) → Tells (cond b (with_hat s) s).spans → Tells s.spans
      at true h = h
      at false h = h

  pub before_chosen_head : (item : ItemValue) (s : CutState) → Tells (chosen_head item s).spans → Tells s.spans
  unfolding chosen_head
  before_chosen_head item s h =
      before_marked item.parts s (before_parts head_part item.parts (opened (enter Chosen (marked item.parts s))) h)

  before_outer_head : (item : ItemValue) (s : CutState) → Tells (outer_head item s).spans → Tells s.spans
  unfolding outer_head
  before_outer_head item s h = at (s.heads == s.choice.profile) (cond (s.heads == s.choice.outermost) whats.Parent whats.Profile) h
    where
      at : (b : Bool) (begun : What) → Tells (cond b (chosen_head item s) (start_run begun item s)).spans → Tells s.spans
      at true _ h = before_chosen_head item s h
      at false begun h = before_run begun item s h

  before_run_head : (what : What) (item : ItemValue) (s : CutState) → Tells (run_head what item s).spans → Tells s.spans
  unfolding run_head
  before_run_head what item s h = at (s.heads == s.choice.profile) h
    where
      at : (b : Bool) → Tells (cond b (chosen_head item (put (run_kind s.choice.subject what) s)) (passed item (opened s))).spans →
          Tells s.spans
      at true h = before_put (run_kind s.choice.subject what) s (before_chosen_head item (put (run_kind s.choice.subject what) s) h)
      at false h = h

  before_child_head : (what : What) (item : ItemValue) (s : CutState) → Tells (child_head what item s).spans → Tells s.spans
  unfolding child_head
  before_child_head what item s h = before_run what item (with_hat s) h

  -- ---- ends of profiles, statements and rules

  before_run_close : (run : Run) (item : ItemValue) (s : CutState) → Tells (run_close run item s).spans → Tells s.spans
  unfolding run_close
  before_run_close run item s h = at ((closed s).depth == run.floor) h
    where
      at : (b : Bool) → Tells (cond b (enter (behind_run run.floor) (put_item (run_kind s.choice.subject run.what) item (closed s)))
          (passed item (closed s))).spans → Tells s.spans
      at true h = before_put (run_kind s.choice.subject run.what) (passed item (closed s)) h
      at false h = h

  before_chosen_close : (item : ItemValue) (s : CutState) → Tells (chosen_close item s).spans → Tells s.spans
  unfolding chosen_close
  before_chosen_close item s h = before_put Kept (passed item (closed s)) h

  before_statement : (item : ItemValue) (s : CutState) → Tells (statement_item item s).spans → Tells s.spans
  unfolding statement_item
  before_statement item s h = at (changes_profile (statement_whats item.parts))
      (told (statement_whats item.parts) (statement_effect s.choice.subject (statement_whats item.parts))) h
    where
      at : (b : Bool) (kind : SpanKind) → Tells (put_item kind item (cond b (with_change s) s)).spans → Tells s.spans
      at true kind h = before_put kind (passed item (with_change s)) h
      at false kind h = before_put kind (passed item s) h

  before_rule : (reading : RuleReading) (item : ItemValue) (s : CutState) → Tells (chosen_rule reading item s).spans → Tells s.spans
  unfolding chosen_rule
  before_rule reading item s h = at (is_restated s.choice.subject reading.shape)
      (told (rule_whats reading.marks item.parts) (effect s.choice.subject reading.shape)) h
    where
      at : (b : Bool) (kind : SpanKind) → Tells (cond b (put_each (rule_part reading) item.parts s) (put_item kind item s)).spans →
          Tells s.spans
      at true kind h = before_parts (rule_part reading) item.parts s h
      at false kind h = before_put kind (passed item s) h

  -- ---- items

  before_outer : (kind : ItemKind) (item : ItemValue) (s : CutState) → Tells (outer_item kind item s).spans → Tells s.spans
  unfolding outer_item
  before_outer items.Blank item s h = before_parts plain_part item.parts s h
  before_outer items.Statement item s h = before_statement item s h
  before_outer items.Profile item s h = before_outer_head item s h
  before_outer items.Hat item s h = before_outer_head item s h
  before_outer _ item s h = before_put Kept (passed item s) h

  before_run_item : (run : Run) (kind : ItemKind) (item : ItemValue) (s : CutState) → Tells (run_item run kind item s).spans →
      Tells s.spans
  unfolding run_item
  before_run_item run items.Profile item s h = before_run_head run.what item s h
  before_run_item run items.Hat item s h = before_run_head run.what item s h
  before_run_item run items.Close item s h = before_run_close run item s h
  before_run_item run _ item s h = h

  before_chosen : (kind : ItemKind) (item : ItemValue) (s : CutState) → Tells (chosen_item kind item s).spans → Tells s.spans
  unfolding chosen_item
  before_chosen items.Blank item s h = before_parts plain_part item.parts s h
  before_chosen items.Statement item s h = before_statement item s h
  before_chosen items.Profile item s h = before_child_head whats.Child item s h
  before_chosen items.Hat item s h = before_child_head whats.Hat item s h
  before_chosen items.Close item s h = before_chosen_close item s h
  before_chosen _ item s h = before_put Kept (passed item s) h

  before_plain : (phase : Phase) (item : ItemValue) (s : CutState) → Tells (plain_item phase item s).spans → Tells s.spans
  unfolding plain_item
  before_plain Outer item s h = before_outer item.kind item s h
  before_plain (Skipping run) item s h = before_run_item run item.kind item s h
  before_plain Chosen item s h = before_chosen item.kind item s h

  before_item : (reading : RuleReading) (item : ItemValue) (s : CutState) → Tells (cut_item reading item s).spans → Tells s.spans
  before_item reading item s h = at (is_chosen_rule item s) h
    where
      at : (b : Bool) → Tells (cond b (chosen_rule reading item s) (plain_item s.phase item s)).spans → Tells s.spans
      at true h = before_rule reading item s h
      at false h = before_plain s.phase item s h

  before_items : (reading : ItemValue → RuleReading) (items : List ItemValue) (s : CutState) → Tells (cut_items reading items s).spans →
      Tells s.spans
  before_items reading [] s h = h
  before_items reading (item ∷ items) s h = before_item (reading item) item s
      (before_items reading items (cut_item (reading item) item s) h)

  pub before_end : (reading : ItemValue → RuleReading) (items : List ItemValue) (s : CutState) →
      Tells (finished (cut_items reading items s)).spans → Tells s.spans
  before_end reading items s h =
      let t = cut_items reading items s in
      before_items reading items s (before_put (rest_kind t.choice.subject t.phase) t h)
