-- What holds of the changes that are reported for all spans holds of the rules that AppArmor adds, if it adds any.
use Rattle.std.proofs.Common.{◌≡◌, ◌⊎◌, inl, inr, ℕ, ◌+◌, ◌≤◌, ◌<◌, ◌==◌, Bool, true, false, not, ◌&&◌, ◌||◌}
use Rattle.std.proofs.Common.{cond, List, [], ◌∷◌, length}
use Rattle.std.proofs.Common.{Option, Some, None, refl, sym, ap, subst, arith}
use Rattle.std.proofs.lemmas.Bool.{and_parts}
use Rattle.names.specs.declared.permissions.Perms.{Perms}
use Rattle.rule_globs.specs.Each.{Each}
use Rattle.apparmor_text.specs.declared.part.PartKind.{PartKind}
use Rattle.apparmor_text.specs.declared.part.PartKind.TheVariants as kinds
use Rattle.apparmor_text.specs.declared.part.ItemKind.{ItemKind}
use Rattle.apparmor_text.specs.declared.part.ItemKind.TheVariants as items
use Rattle.apparmor_text.specs.SoundItems.{IsPart, IsItem}
use Rattle.apparmor_text.specs.Parts.{PartValue, ItemValue, bytes_of_parts}
use Rattle.apparmor_rules.specs.RuleParts.{no_effect, rule_whats}
use Rattle.apparmor_rules.specs.RuleWords.{has_part}
use Rattle.apparmor_rules.specs.declared.what.What.{What}
use Rattle.apparmor_rules.specs.declared.what.What.TheVariants as whats
use Rattle.apparmor_rules.specs.declared.effect.Extent.{Extent}
use Rattle.apparmor_rules.specs.declared.effect.Extent.TheVariants.{Exact, Wider}
use Rattle.apparmor_rules.specs.declared.effect.Effect.{Effect}
use Rattle.apparmor_rules.specs.declared.subject.AppliesTo.TheVariants.{Owners}
use Rattle.apparmor_rules.specs.declared.subject.Subject.{Subject}
use Rattle.apparmor_rules.specs.declared.subject.Subject.TheVariants.{Owner, Other}
use Rattle.apparmor_rules.specs.Changes.{change, effect, gained, lost}
use Rattle.apparmor_rules.specs.Restatement.{has_some, is_restated, shape_of}
use Rattle.apparmor_rules.specs.Subjects.{applies_to, other_subject}
use Rattle.names.specs.declared.kind.RuleKind.TheVariants.{Allow}
use Rattle.import_spans.specs.declared.cut.Phase.{Phase}
use Rattle.import_spans.specs.declared.cut.Phase.TheVariants.{Outer, Skipping, Chosen}
use Rattle.import_spans.specs.declared.cut.Run.{Run}
use Rattle.import_spans.specs.declared.context.Choice.{Choice}
use Rattle.import_spans.specs.declared.context.RuleReading.{RuleReading}
use Rattle.import_spans.specs.declared.span.SpanKind.{SpanKind}
use Rattle.import_spans.specs.declared.span.SpanKind.TheVariants.{Kept}
use Rattle.import_spans.specs.PartSpans.{told, added_effect, added_rule, statement_whats, changes_profile}
use Rattle.import_spans.specs.CutStates.{CutState, at_start, pass, put, enter, opened, closed, with_hat, with_change, passed, put_item}
use Rattle.import_spans.specs.Cuts.{run_effect, run_kind, behind_run, start_run, chosen_head, outer_head, run_head, child_head}
use Rattle.import_spans.specs.Cuts.{run_close, chosen_close, statement_item, chosen_rule, outer_item, run_item, chosen_item, plain_item}
use Rattle.import_spans.specs.Cuts.{is_chosen, is_hat, is_rule, is_chosen_rule, cut_item, cut_items, cut_of, rest_kind, finished}
use Rattle.import_spans.specs.ReadRules.{told_of}
use Rattle.import_spans.proofs.ToldRules.{item_bytes}
use Rattle.import_profile.specs.AddedRules.{added_at, added_rules}
use Rattle.import_profile.specs.FileRules.{PlacedRule}
use Rattle.import_laws.proofs.EachAdded.{of_each_added}
use Rattle.import_laws.proofs.SpansBefore.{Tells, before_chosen_head, before_end, before_parts, head_part, plain_part}
use Rattle.import_laws.proofs.SpansBefore.{put_each, put_is_told, put_cases}
use Rattle.import_laws.proofs.SpansBefore.{rule_part}

-- a run that adds rules to the chosen profile
abbrev IsAdding : Phase → Type 0
IsAdding (Skipping run) = (chosen : Subject) → run_effect chosen run.what ≡ added_effect chosen
IsAdding _ = ⊥

-- what is reported of rules that are added, where it says no more of wider than of exact
pub added_for_chosen : (R : Extent → Type 0) (eases : R Wider → R Exact) (chosen : Subject) → R (added_effect chosen).on_chosen →
    R (change chosen chosen added_rule)
added_for_chosen R eases Owner h = eases h
added_for_chosen R eases Other h = h

pub added_for_other : (R : Extent → Type 0) (chosen : Subject) → R (added_effect chosen).on_other →
    R (change chosen (other_subject chosen) added_rule)
added_for_other R Owner h = h
added_for_other R Other h = h

module _ (on : Effect → Extent) (R : Extent → Type 0) (c : Choice) where
  -- what adds rules is reported
  abbrev pub Added : Type 0
  Added = R (on (added_effect c.subject))

  abbrev IfAny : Option ℕ → Type 0
  IfAny place = (place ≡ None) ⊎ Added

  -- of what adds rules: it is reported, or it is in no span yet
  abbrev SoFar : Phase → Option ℕ → ℕ → ℕ → Type 0
  SoFar phase place from at = IfAny place ⊎ (IsAdding phase × (from < at))

  record Noted (of : Choice) (phase : Phase) (from place : ℕ) (change hat : Option ℕ) : Type 0 where
    pub choice : of ≡ c
    pub fits : from ≤ place
    pub changes : IfAny change
    pub hats : SoFar phase hat from place

  abbrev Is : CutState → Type 0
  Is s = Noted s.choice s.phase s.from s.at s.changes_profile s.has_hat

  -- where no run goes on
  settled : (phase : Phase) (place : Option ℕ) (from at : ℕ) → (IsAdding phase → ⊥) → SoFar phase place from at → IfAny place
  settled phase place from at none (inl h) = h
  settled phase place from at none (inr run) = absurd (none run.0)

  further : (phase : Phase) (place : Option ℕ) (from at more : ℕ) → SoFar phase place from at → SoFar phase place from (at + more)
  further phase place from at more (inl h) = inl h
  further phase place from at more (inr run) = let less = run.1 in inr (run.0, omega (arith, less))

  passing : (n : ℕ) (s : CutState) → Is s → Is (pass n s)
  passing n s f =
      let fits = f.fits in
      record {
        choice = f.choice;
        fits = omega (arith, fits);
        changes = f.changes;
        hats = further s.phase s.has_hat s.from s.at n f.hats;
      }

  -- in another phase, once what went before is reported
  entering : (phase : Phase) (s : CutState) → Is s → IfAny s.has_hat → Is (enter phase s)
  entering phase s f hats = record { choice = f.choice; fits = f.fits; changes = f.changes; hats = inl hats }

  putting : (kind : SpanKind) (s : CutState) → Is s → IfAny s.has_hat → Is (put kind s)
  putting kind s f hats = put_cases Is kind s f
      (record { choice = f.choice; fits = omega arith; changes = f.changes; hats = inl hats })

  putting_parts : (each : Subject → PartValue → SpanKind) (parts : List PartValue) (s : CutState) → Is s → IfAny s.has_hat →
      Is (put_each each parts s)
  putting_parts each [] s f hats = f
  putting_parts each (p ∷ parts) s f hats =
      let kind = each s.choice.subject p in
      let now = pass (length p.bytes) s in
      putting_parts each parts (put kind now) (putting kind now (passing (length p.bytes) s f) hats)
      (put_cases (λ t. IfAny t.has_hat) kind now hats hats)

  in_phase : (phase : Phase) (s : CutState) → s.phase ≡ phase → (IsAdding phase → ⊥) → Is s → IfAny s.has_hat
  in_phase phase s is none f =
      settled phase s.has_hat s.from s.at none (subst (λ (p : Phase). SoFar p s.has_hat s.from s.at) is f.hats)

  -- a run that goes on is reported where its bytes are put
  run_told : (run : Run) (s : CutState) → s.phase ≡ Skipping run → Is s →
      Tells on R (put (run_kind s.choice.subject run.what) s).spans → IfAny s.has_hat
  run_told run s is f h = at (subst (λ (p : Phase). SoFar p s.has_hat s.from s.at) is f.hats)
    where
      at : SoFar (Skipping run) s.has_hat s.from s.at → IfAny s.has_hat
      at (inl done) = done
      at (inr adding) =
          let less = adding.1 in
          let told : R (on (run_effect s.choice.subject run.what)) =
          put_is_told on R (run_kind s.choice.subject run.what) s (λ same. omega (arith, less, same)) h in
          inr (subst (λ (x : Choice). R (on (added_effect x.subject))) f.choice (subst (λ (e : Effect). R (on e))
          (adding.0 s.choice.subject) told))

  -- ---- heads

  hat_in : (parts : List PartValue) (s : CutState) → s.choice ≡ c → s.from ≤ s.at → Each IsPart parts → has_part is_hat parts ≡ true →
      Tells on R (put_each head_part parts s).spans → Added
  hat_in [] s is fits whole there h = absurd cc
  hat_in (p ∷ parts) s is fits whole there h =
      let kind = head_part s.choice.subject p in
      let now = pass (length p.bytes) s in
      at (is_hat p.kind) refl there
      (λ later. hat_in parts (put kind now) (put_cases (λ t. t.choice ≡ c) kind now is is)
      (put_cases (λ t. t.from ≤ t.at) kind now (omega (arith, fits)) (omega arith)) whole.1 later h)
    where
      is_hat_part : (kind : PartKind) → is_hat kind ≡ true → kind ≡ kinds.Hat
      is_hat_part kinds.Hat e = refl
      is_hat_part _ e = absurd cc

      at : (b : Bool) → is_hat p.kind ≡ b → (b || has_part is_hat parts) ≡ true → (has_part is_hat parts ≡ true → Added) → Added
      at false e there others = others there
      at true e there others =
          let some = whole.0.some in
          let kind = head_part s.choice.subject p in
          let now = pass (length p.bytes) s in
          let told = put_is_told on R kind now (λ same. omega (arith, some, fits, same))
          (before_parts on R head_part parts (put kind now) h) in
          subst (λ (x : Choice). R (on (added_effect x.subject))) is
          (subst (λ (k : PartKind). R (told_of on (head_part s.choice.subject (record { kind = k; bytes = p.bytes }))))
          (is_hat_part p.kind e)
          told)

  chosen_heads : (item : ItemValue) (s : CutState) → IsItem item → Is s → IfAny s.has_hat → Tells on R (chosen_head item s).spans →
      Is (chosen_head item s)
  unfolding chosen_head
  chosen_heads item s whole f hats h = at (has_part is_hat item.parts) refl h
    where
      at : (b : Bool) → has_part is_hat item.parts ≡ b →
          Tells on R (put_each head_part item.parts (opened (enter Chosen (cond b (with_hat s) s)))).spans →
          Is (put_each head_part item.parts (opened (enter Chosen (cond b (with_hat s) s))))
      at true e h =
          let told = hat_in item.parts (opened (enter Chosen (with_hat s))) f.choice f.fits whole.parts e h in
          putting_parts head_part item.parts (opened (enter Chosen (with_hat s)))
          (record { choice = f.choice; fits = f.fits; changes = f.changes; hats = inl (inr told) }) (inr told)
      at false e h =
          putting_parts head_part item.parts (opened (enter Chosen s))
          (record { choice = f.choice; fits = f.fits; changes = f.changes; hats = inl hats }) hats

  runs_start : (what : What) (item : ItemValue) (s : CutState) → Is s → IfAny s.has_hat → Is (start_run what item s)
  unfolding start_run
  runs_start what item s f hats =
      passing (length (bytes_of_parts item.parts)) (opened (enter (Skipping (record { what = what; floor = s.depth })) s))
      (record { choice = f.choice; fits = f.fits; changes = f.changes; hats = inl hats })

  outer_heads : (item : ItemValue) (s : CutState) → IsItem item → Is s → IfAny s.has_hat → Tells on R (outer_head item s).spans →
      Is (outer_head item s)
  unfolding outer_head
  outer_heads item s whole f hats h =
      at (s.heads == s.choice.profile) (cond (s.heads == s.choice.outermost) whats.Parent whats.Profile) h
    where
      at : (b : Bool) (word : What) → Tells on R (cond b (chosen_head item s) (start_run word item s)).spans →
          Is (cond b (chosen_head item s) (start_run word item s))
      at true word h = chosen_heads item s whole f hats h
      at false word h = runs_start word item s f hats

  run_heads : (run : Run) (item : ItemValue) (s : CutState) → IsItem item → s.phase ≡ Skipping run → Is s →
      Tells on R (run_head run.what item s).spans → Is (run_head run.what item s)
  unfolding run_head
  run_heads run item s whole is f h = at (s.heads == s.choice.profile) h
    where
      at : (b : Bool)
          → Tells on R (cond b (chosen_head item (put (run_kind s.choice.subject run.what) s)) (passed item (opened s))).spans →
          Is (cond b (chosen_head item (put (run_kind s.choice.subject run.what) s)) (passed item (opened s)))
      at true h =
          let hats = run_told run s is f (before_chosen_head on R item (put (run_kind s.choice.subject run.what) s) h) in
          chosen_heads item (put (run_kind s.choice.subject run.what) s) whole (putting (run_kind s.choice.subject run.what) s f hats)
          (put_cases (λ t. IfAny t.has_hat) (run_kind s.choice.subject run.what) s hats hats) h
      at false h = passing (length (bytes_of_parts item.parts)) (opened s)
          (record { choice = f.choice; fits = f.fits; changes = f.changes; hats = f.hats })

  child_heads : (begun : What) (item : ItemValue) (s : CutState) → ((chosen : Subject) → run_effect chosen begun ≡ added_effect chosen) →
      IsItem item → Is s → Is (child_head begun item s)
  unfolding child_head start_run
  child_heads begun item s adds whole f =
      let some = item_bytes item.parts whole.some whole.parts in
      let fits = f.fits in
      record {
        choice = f.choice;
        fits = omega (arith, fits);
        changes = f.changes;
        hats = inr (adds, omega (arith, fits, some));
      }

  -- ---- ends of profiles

  run_closes : (run : Run) (item : ItemValue) (s : CutState) → s.phase ≡ Skipping run → Is s → Tells on R (run_close run item s).spans →
      Is (run_close run item s)
  unfolding run_close
  run_closes run item s is f h = at ((closed s).depth == run.floor) h
    where
      there : Is (passed item (closed s))
      there = passing (length (bytes_of_parts item.parts)) (closed s)
          (record { choice = f.choice; fits = f.fits; changes = f.changes; hats = f.hats })

      at : (b : Bool)
          → Tells on R (cond b (enter (behind_run run.floor) (put_item (run_kind s.choice.subject run.what) item (closed s)))
          (passed item (closed s))).spans
          → Is (cond b (enter (behind_run run.floor) (put_item (run_kind s.choice.subject run.what) item (closed s)))
          (passed item (closed s)))
      at true h =
          let hats = run_told run (passed item (closed s)) is there h in
          let t = put_item (run_kind s.choice.subject run.what) item (closed s) in
          entering (behind_run run.floor) t (putting (run_kind s.choice.subject run.what) (passed item (closed s)) there hats)
          (put_cases (λ u. IfAny u.has_hat) (run_kind s.choice.subject run.what) (passed item (closed s)) hats hats)
      at false h = there

  chosen_closes : (item : ItemValue) (s : CutState) → Is s → IfAny s.has_hat → Is (chosen_close item s)
  unfolding chosen_close
  chosen_closes item s f hats =
      let there = passing (length (bytes_of_parts item.parts)) (closed s)
      (record { choice = f.choice; fits = f.fits; changes = f.changes; hats = f.hats }) in
      entering (cond ((closed s).depth == 0) Outer (Skipping (record { what = whats.Parent; floor = 0 }))) (put_item Kept item (closed s))
      (putting Kept (passed item (closed s)) there hats) (put_cases (λ u. IfAny u.has_hat) Kept (passed item (closed s)) hats hats)

  -- ---- statements and other items

  statements_go : (item : ItemValue) (s : CutState) → IsItem item → Is s → IfAny s.has_hat → Tells on R (statement_item item s).spans →
      Is (statement_item item s)
  unfolding statement_item
  statements_go item s whole f hats h = at (changes_profile (statement_whats item.parts)) refl h
    where
      at : (b : Bool) → changes_profile (statement_whats item.parts) ≡ b
          → Tells on R (put_item
          (told (statement_whats item.parts) (cond b (added_effect s.choice.subject) (no_effect s.choice.subject))) item
          (cond b (with_change s) s)).spans
          → Is (put_item (told (statement_whats item.parts) (cond b (added_effect s.choice.subject) (no_effect s.choice.subject))) item
          (cond b (with_change s) s))
      at true e h =
          let kind = told (statement_whats item.parts) (added_effect s.choice.subject) in
          let some = item_bytes item.parts whole.some whole.parts in
          let fits = f.fits in
          let here : R (on (added_effect s.choice.subject)) =
          put_is_told on R kind (passed item (with_change s)) (λ same. omega (arith, some, fits, same)) h in
          let added = subst (λ (x : Choice). R (on (added_effect x.subject))) f.choice here in
          putting kind (passed item (with_change s)) (passing (length (bytes_of_parts item.parts)) (with_change s)
          (record { choice = f.choice; fits = f.fits; changes = inr added; hats = f.hats })) hats
      at false e h =
          putting (told (statement_whats item.parts) (no_effect s.choice.subject)) (passed item s)
          (passing (length (bytes_of_parts item.parts)) s f) hats

  kept_go : (item : ItemValue) (s : CutState) → Is s → IfAny s.has_hat → Is (put_item Kept item s)
  kept_go item s f hats = putting Kept (passed item s) (passing (length (bytes_of_parts item.parts)) s f) hats

  outer_items : (kind : ItemKind) (item : ItemValue) (s : CutState) → IsItem item → Is s → IfAny s.has_hat →
      Tells on R (outer_item kind item s).spans → Is (outer_item kind item s)
  unfolding outer_item
  outer_items items.Blank item s whole f hats h = putting_parts plain_part item.parts s f hats
  outer_items items.Statement item s whole f hats h = statements_go item s whole f hats h
  outer_items items.Profile item s whole f hats h = outer_heads item s whole f hats h
  outer_items items.Hat item s whole f hats h = outer_heads item s whole f hats h
  outer_items _ item s whole f hats h = kept_go item s f hats

  run_items : (run : Run) (kind : ItemKind) (item : ItemValue) (s : CutState) → IsItem item → s.phase ≡ Skipping run → Is s →
      Tells on R (run_item run kind item s).spans → Is (run_item run kind item s)
  unfolding run_item
  run_items run items.Profile item s whole is f h = run_heads run item s whole is f h
  run_items run items.Hat item s whole is f h = run_heads run item s whole is f h
  run_items run items.Close item s whole is f h = run_closes run item s is f h
  run_items run _ item s whole is f h = passing (length (bytes_of_parts item.parts)) s f

  chosen_items : (kind : ItemKind) (item : ItemValue) (s : CutState) → IsItem item → Is s → IfAny s.has_hat →
      Tells on R (chosen_item kind item s).spans → Is (chosen_item kind item s)
  unfolding chosen_item
  chosen_items items.Blank item s whole f hats h = putting_parts plain_part item.parts s f hats
  chosen_items items.Statement item s whole f hats h = statements_go item s whole f hats h
  chosen_items items.Profile item s whole f hats h = child_heads whats.Child item s (λ chosen. refl) whole f
  chosen_items items.Hat item s whole f hats h = child_heads whats.Hat item s (λ chosen. refl) whole f
  chosen_items items.Close item s whole f hats h = chosen_closes item s f hats
  chosen_items _ item s whole f hats h = kept_go item s f hats

  plain_items : (phase : Phase) (item : ItemValue) (s : CutState) → IsItem item → s.phase ≡ phase → Is s →
      Tells on R (plain_item phase item s).spans → Is (plain_item phase item s)
  unfolding plain_item
  plain_items Outer item s whole is f h = outer_items item.kind item s whole f (in_phase Outer s is (λ none. none) f) h
  plain_items (Skipping run) item s whole is f h = run_items run item.kind item s whole is f h
  plain_items Chosen item s whole is f h = chosen_items item.kind item s whole f (in_phase Chosen s is (λ none. none) f) h

  rules_go : (reading : RuleReading) (item : ItemValue) (s : CutState) → Is s → IfAny s.has_hat → Is (chosen_rule reading item s)
  unfolding chosen_rule
  rules_go reading item s f hats = at (is_restated s.choice.subject reading.shape)
    where
      at : (b : Bool) → Is (cond b (put_each (rule_part reading) item.parts s)
          (put_item (told (rule_whats reading.marks item.parts) (effect s.choice.subject reading.shape)) item s))
      at true = putting_parts (rule_part reading) item.parts s f hats
      at false = putting (told (rule_whats reading.marks item.parts) (effect s.choice.subject reading.shape)) (passed item s)
          (passing (length (bytes_of_parts item.parts)) s f) hats

  is_in_chosen : (phase : Phase) → is_chosen phase ≡ true → phase ≡ Chosen
  is_in_chosen Chosen e = refl
  is_in_chosen _ e = absurd cc

  item_goes : (reading : RuleReading) (item : ItemValue) (s : CutState) → IsItem item → Is s → Tells on R (cut_item reading item s).spans →
      Is (cut_item reading item s)
  item_goes reading item s whole f h = at (is_chosen_rule item s) refl h
    where
      at : (b : Bool) → is_chosen_rule item s ≡ b → Tells on R (cond b (chosen_rule reading item s) (plain_item s.phase item s)).spans →
          Is (cond b (chosen_rule reading item s) (plain_item s.phase item s))
      at true e h = rules_go reading item s f
          (in_phase Chosen s (is_in_chosen s.phase (and_parts (is_chosen s.phase) (is_rule item.kind) e).0) (λ none. none) f)
      at false e h = plain_items s.phase item s whole refl f h

  -- ---- texts

  at_end : (s : CutState) → Is s → Tells on R (finished s).spans → IfAny s.changes_profile × IfAny s.has_hat
  at_end s f h = (f.changes, by_phase s.phase refl h)
    where
      by_phase : (phase : Phase) → s.phase ≡ phase → Tells on R (put (rest_kind s.choice.subject phase) s).spans → IfAny s.has_hat
      by_phase (Skipping run) is h = run_told run s is f h
      by_phase Outer is h = in_phase Outer s is (λ none. none) f
      by_phase Chosen is h = in_phase Chosen s is (λ none. none) f

  from_here : (reading : ItemValue → RuleReading) (items : List ItemValue) (s : CutState) → Each IsItem items → Is s →
      Tells on R (finished (cut_items reading items s)).spans → IfAny (finished (cut_items reading items s)).changes_profile
      × IfAny (finished (cut_items reading items s)).has_hat
  from_here reading [] s whole f h =
      let both = at_end s f h in
      put_cases (λ t. IfAny t.changes_profile × IfAny t.has_hat) (rest_kind s.choice.subject s.phase) s both both
  from_here reading (item ∷ items) s whole f h =
      let next = cut_item (reading item) item s in
      from_here reading items next whole.1 (item_goes (reading item) item s whole.0 f (before_end on R reading items next h)) h

  -- what adds rules is reported, if anything does
  any_told : (reading : ItemValue → RuleReading) (items : List ItemValue) → Each IsItem items → Tells on R (cut_of reading c items).spans →
      IfAny (cut_of reading c items).changes_profile × IfAny (cut_of reading c items).has_hat
  any_told reading items whole h = from_here reading items (at_start c) whole
      (record { choice = refl; fits = omega arith; changes = inl refl; hats = inl (inl refl) }) h

  module _ (subject : Subject) (reads_off : R (on (added_effect c.subject)) → R (change c.subject subject added_rule)) where
    abbrev IsTold : PlacedRule → Type 0
    IsTold r = R (change c.subject subject (shape_of r.rule))

    -- all rules that are added change the same
    same_change : (place : ℕ) (perms : Perms) (path : List ℕ) → has_some perms ≡ true → change c.subject subject added_rule
        ≡ change c.subject subject (shape_of (added_at place perms path).rule)
    same_change place perms path some =
        ap (λ (b : Bool). cond (applies_to Owners c.subject && true && b) (cond (not (applies_to Owners subject)) (gained Allow) Exact)
        (cond (applies_to Owners subject && b) (lost Allow) Exact)) (sym some)

    each_told : (change_at hat_at : Option ℕ) → IfAny change_at → IfAny hat_at → Each IsTold (added_rules change_at hat_at)
    each_told None None a b = tt
    each_told (Some place) hat_at (inl none) b = absurd cc
    each_told (Some place) hat_at (inr added) b = of_each_added IsTold
        (λ place perms path some. subst R (same_change place perms path some) (reads_off added)) (Some place) hat_at
    each_told None (Some place) a (inl none) = absurd cc
    each_told None (Some place) a (inr added) = of_each_added IsTold
        (λ place perms path some. subst R (same_change place perms path some) (reads_off added)) None (Some place)

    pub added_told : (reading : ItemValue → RuleReading) (items : List ItemValue) → Each IsItem items →
        Tells on R (cut_of reading c items).spans
        → Each IsTold (added_rules (cut_of reading c items).changes_profile (cut_of reading c items).has_hat)
    added_told reading items whole h =
        let any = any_told reading items whole h in
        each_told (cut_of reading c items).changes_profile (cut_of reading c items).has_hat any.0 any.1
