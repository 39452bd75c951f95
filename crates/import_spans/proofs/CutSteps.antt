-- What each step of cutting preserves: the spans cover the bytes so far except for a run that goes on, blank ones are blank, and
-- any property of a list of spans that a further span preserves.
use Rattle.std.proofs.Common.{◌≡◌, ℕ, ◌+◌, ◌≤◌, ◌<◌, ◌==◌, Bool, true, false, cond, List, [], ◌∷◌, ◌++◌, length, drop, refl, sym, ap, ◌∙◌}
use Rattle.std.proofs.Common.{subst, append_assoc, true≢false, arith}
use Rattle.std.proofs.lemmas.Bool.{eqb-true, eqb-false, and_parts}
use Rattle.std.proofs.lemmas.List.{append-nil, length-append}
use Rattle.std.proofs.Math.Seq.{drop-append_seam}
use Rattle.rule_globs.specs.Each.{Each}
use Rattle.apparmor_words.specs.Blanks.{is_blank}
use Rattle.apparmor_text.specs.declared.part.PartKind.{PartKind}
use Rattle.apparmor_text.specs.declared.part.PartKind.TheVariants as kinds
use Rattle.apparmor_text.specs.declared.part.ItemKind.{ItemKind}
use Rattle.apparmor_text.specs.declared.part.ItemKind.TheVariants as items
use Rattle.apparmor_text.specs.SoundItems.{IsPart, IsItem}
use Rattle.apparmor_text.specs.Parts.{PartValue, ItemValue, bytes_of_parts}
use Rattle.apparmor_rules.specs.RuleParts.{part_whats, part_effect, rule_whats}
use Rattle.apparmor_rules.specs.RuleWords.{has_part}
use Rattle.apparmor_rules.specs.declared.what.What.{What}
use Rattle.apparmor_rules.specs.declared.what.What.TheVariants as whats
use Rattle.apparmor_rules.specs.declared.subject.Subject.{Subject}
use Rattle.apparmor_rules.specs.Changes.{effect}
use Rattle.apparmor_rules.specs.Restatement.{is_restated}
use Rattle.import_spans.specs.declared.cut.Phase.{Phase}
use Rattle.import_spans.specs.declared.cut.Phase.TheVariants.{Outer, Skipping, Chosen}
use Rattle.import_spans.specs.declared.cut.Run.{Run}
use Rattle.import_spans.specs.declared.context.Choice.{Choice}
use Rattle.import_spans.specs.declared.context.RuleReading.{RuleReading}
use Rattle.import_spans.specs.declared.span.Span.{Span}
use Rattle.import_spans.specs.declared.span.SpanKind.{SpanKind}
use Rattle.import_spans.specs.declared.span.SpanKind.TheVariants.{Kept, Blank}
use Rattle.import_spans.specs.declared.reports.PartTelling.{PartTelling}
use Rattle.import_spans.specs.declared.reports.PartTelling.TheVariants.{Plain, OfHead, OfRule}
use Rattle.import_spans.specs.PartSpans.{told, plain_kind, head_kind, rule_kind, part_kind, statement_whats, statement_effect}
use Rattle.import_spans.specs.PartSpans.{changes_profile}
use Rattle.import_spans.specs.CutStates.{CutState, pass, put, enter, opened, closed, with_hat, with_change, passed, put_item, put_parts}
use Rattle.import_spans.specs.Cuts.{run_kind, behind_run, start_run, marked, chosen_head, outer_head, run_head, child_head, run_close}
use Rattle.import_spans.specs.Cuts.{chosen_close, statement_item, chosen_rule, outer_item, run_item, chosen_item, plain_item, is_rule}
use Rattle.import_spans.specs.Cuts.{is_chosen, is_hat, is_chosen_rule, cut_item}
use Rattle.import_spans.specs.Spans.{Covers, IsRight}
use Rattle.import_spans.proofs.SpanLists.{one_more, covers_more, each_more, right_more, right_last}

-- ---- kinds of parts

plain_blank : (kind : PartKind) → plain_kind kind ≡ Blank → kind ≡ kinds.Blank
plain_blank kinds.Blank e = refl
plain_blank _ e = absurd cc

head_blank : (chosen : Subject) (kind : PartKind) (bytes : List ℕ) → head_kind chosen kind bytes ≡ Blank → kind ≡ kinds.Blank
head_blank chosen kinds.Blank bytes e = refl
head_blank chosen _ bytes e = absurd cc

rule_blank : (chosen : Subject) (reading : RuleReading) (kind : PartKind) → rule_kind chosen reading kind ≡ Blank → kind ≡ kinds.Blank
rule_blank chosen reading kind e = at (length (part_whats reading.marks kind) == 0) e
  where
    at : (b : Bool) → cond b (plain_kind kind) (told (part_whats reading.marks kind) (part_effect chosen reading.shape kind)) ≡ Blank →
        kind ≡ kinds.Blank
    at true e = plain_blank kind e
    at false e = absurd cc

part_blank : (telling : PartTelling) (chosen : Subject) (p : PartValue) → part_kind telling chosen p ≡ Blank → p.kind ≡ kinds.Blank
part_blank Plain chosen p e = plain_blank p.kind e
part_blank OfHead chosen p e = head_blank chosen p.kind p.bytes e
part_blank (OfRule reading) chosen p e = rule_blank chosen reading p.kind e

-- ---- what is kept

-- After these bytes, with the spans up to one of them; blank ones are blank if B.
pub record Fine (B : Type 0) (Q : List Span → Type 0) (c : Choice) (before : List ℕ) (of : Choice) (place from : ℕ)
    (spans : List Span) : Type 0 where
  pub choice : of ≡ c
  pub at : place ≡ length before
  pub covers : Covers spans 0 from
  pub fits : from ≤ place
  pub right : B → Each (IsRight before) spans
  pub more : Q spans

abbrev pub is_skipping : Phase → Bool
is_skipping (Skipping run) = true
is_skipping _ = false

-- outside of runs no byte is left
abbrev pub Settled : CutState → Type 0
Settled s = is_skipping s.phase ≡ false → s.from ≡ s.at

pub put_settles : (kind : SpanKind) (s : CutState) → (put kind s).from ≡ (put kind s).at
put_settles kind s = at (s.from == s.at) refl
  where
    at : (b : Bool) → (s.from == s.at) ≡ b → (cond b s (record s { from = s.at; spans = one_more s.from s.at kind s.spans })).from
        ≡ (cond b s (record s { from = s.at; spans = one_more s.from s.at kind s.spans })).at
    at true e = eqb-true s.from s.at e
    at false e = refl

pub parts_settle : (telling : PartTelling) (parts : List PartValue) (s : CutState) → s.from ≡ s.at → (put_parts telling parts s).from
    ≡ (put_parts telling parts s).at
parts_settle telling [] s e = e
parts_settle telling (p ∷ parts) s e =
    parts_settle telling parts (put (part_kind telling s.choice.subject p) (pass (length p.bytes) s))
    (put_settles (part_kind telling s.choice.subject p) (pass (length p.bytes) s))

chosen_settles : (phase : Phase) → is_chosen phase ≡ true → is_skipping phase ≡ false
chosen_settles Chosen e = refl
chosen_settles _ e = absurd cc

pub settled_there : (item : ItemValue) (s : CutState) → is_chosen_rule item s ≡ true → Settled s → s.from ≡ s.at
settled_there item s e settled = settled (chosen_settles s.phase (and_parts (is_chosen s.phase) (is_rule item.kind) e).0)

module _ (B : Type 0) (Q : List Span → Type 0) (grow : (spans : List Span) (span : Span) → Q spans → Q (spans ++ (span ∷ [])))
    (c : Choice) where
  abbrev pub Is : List ℕ → CutState → Type 0
  Is before s = Fine B Q c before s.choice s.at s.from s.spans

  pub passing : (before bytes : List ℕ) (s : CutState) → Is before s → Is (before ++ bytes) (pass (length bytes) s)
  passing before bytes s f =
      let at = f.at in
      let fits = f.fits in
      record {
        choice = f.choice;
        at = ap (λ n. n + length bytes) at ∙ sym (length-append before bytes);
        covers = f.covers;
        fits = omega arith;
        right = λ b. right_more s.spans 0 s.from before bytes f.covers (omega arith) (f.right b);
        more = f.more;
      }

  pub putting : (before : List ℕ) (kind : SpanKind) (s : CutState) → Is before s
      → (B → kind ≡ Blank → is_blank false (drop s.from before) ≡ true) → Is before (put kind s)
  putting before kind s f blank = at (s.from == s.at) refl
    where
      at : (b : Bool) → (s.from == s.at) ≡ b → Is before (cond b s (record s { from = s.at; spans = one_more s.from s.at kind s.spans }))
      at true e = f
      at false e =
          let fits = f.fits in
          let ne = eqb-false s.from s.at e in
          let less : s.from < s.at = omega (arith, ne, fits) in
          record {
            choice = f.choice;
            at = f.at;
            covers = covers_more s.spans 0 s.from s.at kind f.covers less;
            fits = omega arith;
            right = λ b. each_more (IsRight before) s.spans (record { start = s.from; end = s.at; kind = kind }) (f.right b)
                (right_last before s.from s.at kind f.at (blank b));
            more = grow s.spans (record { start = s.from; end = s.at; kind = kind }) f.more;
          }

  pub putting_parts : (before : List ℕ) (telling : PartTelling) (parts : List PartValue) (s : CutState) → (B → Each IsPart parts)
      → s.from ≡ s.at → Is before s → Is (before ++ bytes_of_parts parts) (put_parts telling parts s)
  putting_parts before telling [] s whole e f = subst (λ (x : List ℕ). Is x s) (sym (append-nil before)) f
  putting_parts before telling (p ∷ parts) s whole e f =
      let kind = part_kind telling s.choice.subject p in
      let next = putting (before ++ p.bytes) kind (pass (length p.bytes) s) (passing before p.bytes s f)
      (λ b is. ap (λ n. is_blank false (drop n (before ++ p.bytes))) (e ∙ f.at) ∙ ap (is_blank false) (drop-append_seam before p.bytes)
      ∙ (whole b).0.blank (part_blank telling s.choice.subject p is)) in
      let all = putting_parts (before ++ p.bytes) telling parts (put kind (pass (length p.bytes) s)) (λ b. (whole b).1)
      (put_settles kind (pass (length p.bytes) s)) next in
      subst (λ (x : List ℕ). Is x (put_parts telling parts (put kind (pass (length p.bytes) s))))
      (append_assoc before p.bytes (bytes_of_parts parts)) all

  -- ---- items that are one span, or a part of one

  pub item_passes : (before : List ℕ) (item : ItemValue) (s : CutState) → Is before s →
      Is (before ++ bytes_of_parts item.parts) (passed item s)
  item_passes before item s f = passing before (bytes_of_parts item.parts) s f

  pub item_is_put : (before : List ℕ) (kind : SpanKind) (item : ItemValue) (s : CutState) → (kind ≡ Blank → ⊥) → Is before s
      → Is (before ++ bytes_of_parts item.parts) (put_item kind item s)
  item_is_put before kind item s other f =
      putting (before ++ bytes_of_parts item.parts) kind (passed item s) (item_passes before item s f) (λ b e. absurd (other e))

  abbrev pub Good : List ℕ → CutState → Type 0
  Good before s = Is before s × Settled s

  runs_start : (before : List ℕ) (what : What) (item : ItemValue) (s : CutState) → Is before s → Good (before ++ bytes_of_parts item.parts)
      (start_run what item s)
  unfolding start_run
  runs_start before what item s f =
      (item_passes before item (opened (enter (Skipping (record { what = what; floor = s.depth })) s)) f, λ e. absurd cc)

  -- ---- heads

  marks_stay : (before : List ℕ) (parts : List PartValue) (s : CutState) → s.from ≡ s.at → Is before s → Is before (marked parts s)
      × ((marked parts s).from ≡ (marked parts s).at)
  marks_stay before parts s e f = at (has_part is_hat parts)
    where
      at : (b : Bool) → Is before (cond b (with_hat s) s) × ((cond b (with_hat s) s).from ≡ (cond b (with_hat s) s).at)
      at true = (f, e)
      at false = (f, e)

  chosen_heads : (before : List ℕ) (item : ItemValue) (s : CutState) → (B → IsItem item) → s.from ≡ s.at → Is before s
      → Good (before ++ bytes_of_parts item.parts) (chosen_head item s)
  unfolding chosen_head
  chosen_heads before item s whole e f =
      let stay = marks_stay before item.parts s e f in
      let t = opened (enter Chosen (marked item.parts s)) in
      (putting_parts before OfHead item.parts t (λ b. (whole b).parts) stay.1 stay.0, λ _. parts_settle OfHead item.parts t stay.1)

  outer_heads : (before : List ℕ) (item : ItemValue) (s : CutState) → (B → IsItem item) → s.from ≡ s.at → Is before s
      → Good (before ++ bytes_of_parts item.parts) (outer_head item s)
  unfolding outer_head
  outer_heads before item s whole e f = at (s.heads == s.choice.profile) (cond (s.heads == s.choice.outermost) whats.Parent whats.Profile)
    where
      at : (b : Bool) (word : What) → Good (before ++ bytes_of_parts item.parts) (cond b (chosen_head item s) (start_run word item s))
      at true word = chosen_heads before item s whole e f
      at false word = runs_start before word item s f

  run_heads : (before : List ℕ) (what : What) (item : ItemValue) (s : CutState) → (B → IsItem item) → is_skipping s.phase ≡ true →
      Is before s
      → Good (before ++ bytes_of_parts item.parts) (run_head what item s)
  unfolding run_head
  run_heads before what item s whole skips f = at (s.heads == s.choice.profile)
    where
      at : (b : Bool) → Good (before ++ bytes_of_parts item.parts) (cond b (chosen_head item (put (run_kind s.choice.subject what) s))
          (passed item (opened s)))
      at true =
          chosen_heads before item (put (run_kind s.choice.subject what) s) whole (put_settles (run_kind s.choice.subject what) s)
          (putting before (run_kind s.choice.subject what) s f (λ b e. absurd cc))
      at false = (item_passes before item (opened s) f, λ e. absurd (true≢false (sym skips ∙ e)))

  child_heads : (before : List ℕ) (what : What) (item : ItemValue) (s : CutState) → Is before s →
      Good (before ++ bytes_of_parts item.parts) (child_head what item s)
  unfolding child_head
  child_heads before what item s f = runs_start before what item (with_hat s) f

  -- ---- ends of profiles

  run_closes : (before : List ℕ) (run : Run) (item : ItemValue) (s : CutState) → is_skipping s.phase ≡ true → Is before s
      → Good (before ++ bytes_of_parts item.parts) (run_close run item s)
  unfolding run_close
  run_closes before run item s skips f = at ((closed s).depth == run.floor)
    where
      at : (b : Bool) → Good (before ++ bytes_of_parts item.parts)
          (cond b (enter (behind_run run.floor) (put_item (run_kind s.choice.subject run.what) item (closed s))) (passed item (closed s)))
      at true = (
        item_is_put before (run_kind s.choice.subject run.what) item (closed s) (λ e. absurd cc) f,
        λ _. put_settles (run_kind s.choice.subject run.what) (passed item (closed s)),
      )
      at false = (item_passes before item (closed s) f, λ e. absurd (true≢false (sym skips ∙ e)))

  chosen_closes : (before : List ℕ) (item : ItemValue) (s : CutState) → Is before s → Good (before ++ bytes_of_parts item.parts)
      (chosen_close item s)
  unfolding chosen_close
  chosen_closes before item s f = (
    item_is_put before Kept item (closed s) (λ e. absurd cc) f,
    λ _. put_settles Kept
        (passed item (closed s)),
  )

  -- ---- statements and rules

  statements_go : (before : List ℕ) (item : ItemValue) (s : CutState) → Is before s → Good (before ++ bytes_of_parts item.parts)
      (statement_item item s)
  unfolding statement_item
  statements_go before item s f = at (changes_profile (statement_whats item.parts))
      (told (statement_whats item.parts) (statement_effect s.choice.subject (statement_whats item.parts))) (λ e. absurd cc)
    where
      at : (b : Bool) (kind : SpanKind) → (kind ≡ Blank → ⊥) → Good (before ++ bytes_of_parts item.parts)
          (put_item kind item (cond b (with_change s) s))
      at true kind other = (item_is_put before kind item (with_change s) other f, λ _. put_settles kind (passed item (with_change s)))
      at false kind other = (item_is_put before kind item s other f, λ _. put_settles kind (passed item s))

  pub rules_go : (before : List ℕ) (reading : RuleReading) (item : ItemValue) (s : CutState) → (B → IsItem item) →
      s.from ≡ s.at → Is before s
      → Good (before ++ bytes_of_parts item.parts) (chosen_rule reading item s)
  unfolding chosen_rule
  rules_go before reading item s whole e f = at (is_restated s.choice.subject reading.shape)
      (told (rule_whats reading.marks item.parts) (effect s.choice.subject reading.shape)) (λ e. absurd cc)
    where
      at : (b : Bool) (kind : SpanKind) → (kind ≡ Blank → ⊥) → Good (before ++ bytes_of_parts item.parts)
          (cond b (put_parts (OfRule reading) item.parts s) (put_item kind item s))
      at true kind other = (
        putting_parts before (OfRule reading) item.parts s (λ b. (whole b).parts) e f,
        λ _. parts_settle
            (OfRule reading) item.parts s e,
      )
      at false kind other = (item_is_put before kind item s other f, λ _. put_settles kind (passed item s))

  -- ---- items

  blanks_go : (before : List ℕ) (item : ItemValue) (s : CutState) → (B → IsItem item) → s.from ≡ s.at → Is before s
      → Good (before ++ bytes_of_parts item.parts) (put_parts Plain item.parts s)
  blanks_go before item s whole e f =
      (putting_parts before Plain item.parts s (λ b. (whole b).parts) e f, λ _. parts_settle Plain item.parts s e)

  kept_go : (before : List ℕ) (item : ItemValue) (s : CutState) → Is before s → Good (before ++ bytes_of_parts item.parts)
      (put_item Kept item s)
  kept_go before item s f = (item_is_put before Kept item s (λ e. absurd cc) f, λ _. put_settles Kept (passed item s))

  outer_items : (kind : ItemKind) (before : List ℕ) (item : ItemValue) (s : CutState) → (B → IsItem item) → s.from ≡ s.at → Is before s
      → Good (before ++ bytes_of_parts item.parts) (outer_item kind item s)
  unfolding outer_item
  outer_items items.Blank before item s whole e f = blanks_go before item s whole e f
  outer_items items.Statement before item s whole e f = statements_go before item s f
  outer_items items.Profile before item s whole e f = outer_heads before item s whole e f
  outer_items items.Hat before item s whole e f = outer_heads before item s whole e f
  outer_items _ before item s whole e f = kept_go before item s f

  run_items : (run : Run) (kind : ItemKind) (before : List ℕ) (item : ItemValue) (s : CutState) → (B → IsItem item) →
      is_skipping s.phase ≡ true → Is before s
      → Good (before ++ bytes_of_parts item.parts) (run_item run kind item s)
  unfolding run_item
  run_items run items.Profile before item s whole skips f = run_heads before run.what item s whole skips f
  run_items run items.Hat before item s whole skips f = run_heads before run.what item s whole skips f
  run_items run items.Close before item s whole skips f = run_closes before run item s skips f
  run_items run _ before item s whole skips f = (item_passes before item s f, λ e. absurd (true≢false (sym skips ∙ e)))

  chosen_items : (kind : ItemKind) (before : List ℕ) (item : ItemValue) (s : CutState) → (B → IsItem item) → s.from ≡ s.at → Is before s
      → Good (before ++ bytes_of_parts item.parts) (chosen_item kind item s)
  unfolding chosen_item
  chosen_items items.Blank before item s whole e f = blanks_go before item s whole e f
  chosen_items items.Statement before item s whole e f = statements_go before item s f
  chosen_items items.Profile before item s whole e f = child_heads before whats.Child item s f
  chosen_items items.Hat before item s whole e f = child_heads before whats.Hat item s f
  chosen_items items.Close before item s whole e f = chosen_closes before item s f
  chosen_items _ before item s whole e f = kept_go before item s f

  plain_items : (phase : Phase) (before : List ℕ) (item : ItemValue) (s : CutState) → (B → IsItem item) → s.phase ≡ phase → Good before s
      → Good (before ++ bytes_of_parts item.parts) (plain_item phase item s)
  unfolding plain_item
  plain_items Outer before item s whole is g = outer_items item.kind before item s whole (g.1 (ap is_skipping is)) g.0
  plain_items (Skipping run) before item s whole is g = run_items run item.kind before item s whole (ap is_skipping is) g.0
  plain_items Chosen before item s whole is g = chosen_items item.kind before item s whole (g.1 (ap is_skipping is)) g.0

  pub items_go : (before : List ℕ) (reading : RuleReading) (item : ItemValue) (s : CutState) → (B → IsItem item) → Good before s
      → Good (before ++ bytes_of_parts item.parts) (cut_item reading item s)
  items_go before reading item s whole g = at (is_chosen_rule item s) refl
    where
      at : (b : Bool) → is_chosen_rule item s ≡ b → Good (before ++ bytes_of_parts item.parts)
          (cond b (chosen_rule reading item s) (plain_item s.phase item s))
      at true e = rules_go before reading item s whole (settled_there item s e g.1) g.0
      at false e = plain_items s.phase before item s whole refl g
