-- What holds of the changes that are reported for all spans holds of that of the chosen profile's mode.
use Rattle.std.proofs.Common.{◌≡◌, ℕ, suc, ◌+◌, ◌-◌, ◌≤◌, ◌==◌, Bool, true, false, ◌&&◌, cond, List, [], ◌∷◌, length, refl, sym, ap, ap₂}
use Rattle.std.proofs.Common.{◌∙◌, subst, arith}
use Rattle.std.proofs.lemmas.Bool.{eqb-true}
use Rattle.rule_globs.specs.Each.{Each}
use Rattle.apparmor_text.specs.declared.part.PartKind.{PartKind}
use Rattle.apparmor_text.specs.declared.part.PartKind.TheVariants as kinds
use Rattle.apparmor_text.specs.declared.part.ItemKind.{ItemKind}
use Rattle.apparmor_text.specs.declared.part.ItemKind.TheVariants as items
use Rattle.apparmor_text.specs.SoundItems.{IsPart, IsItem}
use Rattle.apparmor_text.specs.Parts.{PartValue, ItemValue}
use Rattle.apparmor_rules.specs.declared.what.What.{What}
use Rattle.apparmor_rules.specs.declared.what.What.TheVariants as whats
use Rattle.apparmor_rules.specs.declared.effect.Extent.{Extent}
use Rattle.apparmor_rules.specs.declared.effect.Extent.TheVariants.{Exact}
use Rattle.apparmor_rules.specs.declared.mode.Mode.{Mode}
use Rattle.apparmor_rules.specs.declared.mode.Mode.TheVariants.{Enforcing, Permissive, Unconfined}
use Rattle.apparmor_rules.specs.declared.subject.Subject.{Subject}
use Rattle.apparmor_rules.specs.declared.effect.Effect.{Effect}
use Rattle.apparmor_rules.specs.Changes.{mode_change, mode_effect}
use Rattle.import_spans.specs.declared.cut.Phase.{Phase}
use Rattle.import_spans.specs.declared.cut.Phase.TheVariants.{Outer, Skipping, Chosen}
use Rattle.import_spans.specs.declared.cut.Run.{Run}
use Rattle.import_spans.specs.declared.context.Choice.{Choice}
use Rattle.import_spans.specs.declared.context.RuleReading.{RuleReading}
use Rattle.import_spans.specs.declared.span.SpanKind.{SpanKind}
use Rattle.import_spans.specs.declared.span.SpanKind.TheVariants.{Kept}
use Rattle.import_spans.specs.Modes.{more_permissive, part_mode, mode_with_parts, mode_of_flags, mode_of_head}
use Rattle.import_spans.specs.PartSpans.{told, head_kind, statement_whats, statement_effect, changes_profile}
use Rattle.import_spans.specs.CutStates.{CutState, at_start, pass, put, enter, opened, closed, with_hat, with_change, passed, put_item}
use Rattle.import_spans.specs.Cuts.{run_kind, behind_run, start_run, marked, chosen_head, outer_head, run_head, run_close, statement_item}
use Rattle.import_spans.specs.Cuts.{chosen_rule, outer_item, run_item, plain_item, is_chosen, is_rule, cut_item, cut_items, cut_of}
use Rattle.import_spans.specs.Cuts.{finished, is_hat}
use Rattle.apparmor_rules.specs.RuleWords.{has_part}
use Rattle.import_spans.specs.ReadRules.{told_of}
use Rattle.import_laws.specs.Imported.{mode_from, opens_profile}
use Rattle.import_laws.proofs.SpansBefore.{Tells, before_end, before_parts, head_part, plain_part, put_cases, put_each, put_is_told}

put_fits : (kind : SpanKind) (s : CutState) → s.from ≤ s.at → (put kind s).from ≤ (put kind s).at
put_fits kind s fits = put_cases (λ t. t.from ≤ t.at) kind s fits (omega arith)

marked_fits : (parts : List PartValue) (s : CutState) → s.from ≤ s.at → (marked parts s).from ≤ (marked parts s).at
marked_fits parts s fits = at (has_part is_hat parts)
  where
    at : (b : Bool) → (cond b (with_hat s) s).from ≤ (cond b (with_hat s) s).at
    at true = fits
    at false = fits

-- ---- flags

-- the change of a mode is read off its effect
abbrev pub ReadsModes : (Effect → Extent) → Type 0
ReadsModes on = (chosen : Subject) (mode : Mode) → on (mode_effect chosen mode) ≡ mode_change mode

module _ (on : Effect → Extent) (reads : ReadsModes on) (R : Extent → Type 0) (exact : R Exact) where
  part_told : (chosen : Subject) (kind : PartKind) (bytes : List ℕ) → R (told_of on (head_kind chosen kind bytes)) →
      R (mode_change (part_mode kind bytes))
  part_told chosen kinds.Flags bytes h = subst R (reads chosen (mode_of_flags bytes)) h
  part_told chosen _ bytes h = exact

  both_told : (mode other : Mode) → R (mode_change mode) → R (mode_change other) → R (mode_change (more_permissive mode other))
  both_told Enforcing other e f = f
  both_told Permissive Enforcing e f = e
  both_told Permissive Permissive e f = f
  both_told Permissive Unconfined e f = f
  both_told Unconfined other e f = e

  parts_told : (parts : List PartValue) (s : CutState) (mode : Mode) → Each IsPart parts → s.from ≤ s.at → R (mode_change mode)
      → Tells on R (put_each head_part parts s).spans → R (mode_change (mode_with_parts mode parts))
  parts_told [] s mode whole fits e h = e
  parts_told (p ∷ parts) s mode whole fits e h =
      let kind = head_part s.choice.subject p in
      let now = pass (length p.bytes) s in
      let some = whole.0.some in
      let more : s.from ≤ s.at + length p.bytes = omega (arith, fits) in
      let here = put_is_told on R kind now (λ same. omega (arith, some, fits, same))
      (before_parts on R head_part parts (put kind now) h) in
      parts_told parts (put kind now) (more_permissive mode (part_mode p.kind p.bytes)) whole.1 (put_fits kind now more)
      (both_told mode (part_mode p.kind p.bytes) e (part_told s.choice.subject p.kind p.bytes here)) h

  head_told : (item : ItemValue) (s : CutState) → IsItem item → s.from ≤ s.at → Tells on R (chosen_head item s).spans →
      R (mode_change (mode_of_head item.parts))
  unfolding chosen_head
  head_told item s whole fits h =
      parts_told item.parts (opened (enter Chosen (marked item.parts s))) Enforcing whole.parts (marked_fits item.parts s fits) exact h

-- ---- before the chosen profile

-- no profile is open, or the outermost that is began a run
abbrev IsBefore : Phase → ℕ → Type 0
IsBefore Outer depth = depth ≡ 0
IsBefore (Skipping run) depth = run.floor ≡ 0
IsBefore Chosen depth = ⊥

record Before (c : Choice) (heads : ℕ) (of : Choice) (count depth place from : ℕ) (phase : Phase) : Type 0 where
  pub choice : of ≡ c
  pub heads_are : count ≡ heads
  pub fits : from ≤ place
  pub before : IsBefore phase depth

not_chosen : (phase : Phase) (depth : ℕ) (b : Bool) → IsBefore phase depth → (is_chosen phase && b) ≡ false
not_chosen Outer depth b h = refl
not_chosen (Skipping run) depth b h = refl
not_chosen Chosen depth b h = absurd h

behind_is_outer : (floor depth : ℕ) → floor ≡ 0 → depth ≡ 0 → IsBefore (behind_run floor) depth
behind_is_outer floor depth e h = subst (λ (n : ℕ). IsBefore (behind_run n) depth) (sym e) h

module _ (on : Effect → Extent) (reads : ReadsModes on) (R : Extent → Type 0) (exact : R Exact) (c : Choice) where
  abbrev Is : ℕ → CutState → Type 0
  Is heads s = Before c heads s.choice s.heads s.depth s.at s.from s.phase

  passing : (heads n : ℕ) (s : CutState) → Is heads s → Is heads (pass n s)
  passing heads n s f = let fits = f.fits in record { choice = f.choice; heads_are = f.heads_are; fits = omega arith; before = f.before }

  putting : (heads : ℕ) (kind : SpanKind) (s : CutState) → Is heads s → Is heads (put kind s)
  putting heads kind s f =
      put_cases (λ t. Is heads t) kind s f (record { choice = f.choice; heads_are = f.heads_are; fits = omega arith; before = f.before })

  putting_parts : (heads : ℕ) (each : Subject → PartValue → SpanKind) (parts : List PartValue) (s : CutState) → Is heads s →
      Is heads (put_each each parts s)
  putting_parts heads each [] s f = f
  putting_parts heads each (p ∷ parts) s f =
      let kind = each s.choice.subject p in
      let now = pass (length p.bytes) s in
      putting_parts heads each parts (put kind now) (putting heads kind now (passing heads (length p.bytes) s f))

  putting_item : (heads : ℕ) (kind : SpanKind) (item : ItemValue) (s : CutState) → Is heads s → Is heads (put_item kind item s)
  putting_item heads kind item s f = putting heads kind (passed item s) (passing heads _ s f)

  -- After an item, which is a head or not, and the chosen profile's or not: that one's mode is exact, or it is still to come.
  abbrev Step : ℕ → ItemValue → Bool → Bool → CutState → Type 0
  Step heads item false is t = Is heads t
  Step heads item true false t = Is (suc heads) t
  Step heads item true true t = Tells on R t.spans → R (mode_change (mode_of_head item.parts))

  run_starts : (heads : ℕ) (begun : What) (item : ItemValue) (s : CutState) → s.depth ≡ 0 → Is heads s →
      Is (suc heads) (start_run begun item s)
  unfolding start_run
  run_starts heads _ item s outer f =
      let fits = f.fits in
      let count = f.heads_are in
      record { choice = f.choice; heads_are = omega (arith, count); fits = omega (arith, fits); before = outer }

  same_test : (heads : ℕ) (s : CutState) → Is heads s → (s.heads == s.choice.profile) ≡ (heads == c.profile)
  same_test heads s f = ap₂ (λ (n m : ℕ). n == m) f.heads_are (ap (λ (x : Choice). x.profile) f.choice)

  outer_heads : (heads : ℕ) (item : ItemValue) (s : CutState) → IsItem item → s.depth ≡ 0 → Is heads s →
      Step heads item true (heads == c.profile) (outer_head item s)
  unfolding outer_head
  outer_heads heads item s whole outer f =
      subst (λ (b : Bool). Step heads item true b (cond (s.heads == s.choice.profile) (chosen_head item s)
      (start_run (cond (s.heads == s.choice.outermost) whats.Parent whats.Profile) item s)))
      (same_test heads s f) (at (s.heads == s.choice.profile) (cond (s.heads == s.choice.outermost) whats.Parent whats.Profile))
    where
      at : (b : Bool) (begun : What) → Step heads item true b (cond b (chosen_head item s) (start_run begun item s))
      at true _ = λ h. head_told on reads R exact item s whole f.fits h
      at false begun = run_starts heads begun item s outer f

  run_heads : (heads : ℕ) (run : Run) (item : ItemValue) (s : CutState) → IsItem item → s.phase ≡ Skipping run → Is heads s
      → Step heads item true (heads == c.profile) (run_head run.what item s)
  unfolding run_head
  run_heads heads run item s whole is f =
      let kind = run_kind s.choice.subject run.what in
      subst (λ (b : Bool). Step heads item true b (cond (s.heads == s.choice.profile) (chosen_head item (put kind s))
      (passed item (opened s))))
      (same_test heads s f) (at (s.heads == s.choice.profile) kind)
    where
      at : (b : Bool) (kind : SpanKind) → Step heads item true b (cond b (chosen_head item (put kind s)) (passed item (opened s)))
      at true kind = λ h. head_told on reads R exact item (put kind s) whole (putting heads kind s f).fits h
      at false kind =
          let fits = f.fits in
          let count = f.heads_are in
          let floor : run.floor ≡ 0 = subst (λ (p : Phase). IsBefore p s.depth) is f.before in
          record {
            choice = f.choice;
            heads_are = omega (arith, count);
            fits = omega (arith, fits);
            before = subst (λ (p : Phase). IsBefore p (s.depth + 1)) (sym is) floor;
          }

  run_closes : (heads : ℕ) (run : Run) (item : ItemValue) (s : CutState) → s.phase ≡ Skipping run → Is heads s →
      Is heads (run_close run item s)
  unfolding run_close
  run_closes heads run item s is f = at ((closed s).depth == run.floor) refl (run_kind s.choice.subject run.what)
    where
      at : (b : Bool) → ((closed s).depth == run.floor) ≡ b → (kind : SpanKind)
          → Is heads (cond b (enter (behind_run run.floor) (put_item kind item (closed s))) (passed item (closed s)))
      at true e kind =
          let fits = f.fits in
          let floor : run.floor ≡ 0 = subst (λ (p : Phase). IsBefore p s.depth) is f.before in
          let outer : IsBefore (behind_run run.floor) (s.depth - 1) = behind_is_outer run.floor (s.depth - 1) floor
          (eqb-true (s.depth - 1) run.floor e ∙ floor) in
          put_cases (λ t. Is heads (enter (behind_run run.floor) t)) kind (passed item (closed s))
          (record { choice = f.choice; heads_are = f.heads_are; fits = omega (arith, fits); before = outer })
          (record { choice = f.choice; heads_are = f.heads_are; fits = omega arith; before = outer })
      at false e kind =
          let fits = f.fits in
          let floor : run.floor ≡ 0 = subst (λ (p : Phase). IsBefore p s.depth) is f.before in
          record {
            choice = f.choice;
            heads_are = f.heads_are;
            fits = omega (arith, fits);
            before = subst (λ (p : Phase). IsBefore p (s.depth - 1)) (sym is) floor;
          }

  statements_go : (heads : ℕ) (item : ItemValue) (s : CutState) → Is heads s → Is heads (statement_item item s)
  unfolding statement_item
  statements_go heads item s f = at (changes_profile (statement_whats item.parts))
      (told (statement_whats item.parts) (statement_effect s.choice.subject (statement_whats item.parts)))
    where
      at : (b : Bool) (kind : SpanKind) → Is heads (put_item kind item (cond b (with_change s) s))
      at true kind = putting_item heads kind item (with_change s)
          (record { choice = f.choice; heads_are = f.heads_are; fits = f.fits; before = f.before })
      at false kind = putting_item heads kind item s f

  outer_steps : (kind : ItemKind) (heads : ℕ) (item : ItemValue) (s : CutState) → IsItem item → s.depth ≡ 0 → Is heads s
      → Step heads item (opens_profile kind) (heads == c.profile) (outer_item kind item s)
  unfolding outer_item
  outer_steps items.Blank heads item s whole outer f = putting_parts heads plain_part item.parts s f
  outer_steps items.Statement heads item s whole outer f = statements_go heads item s f
  outer_steps items.Profile heads item s whole outer f = outer_heads heads item s whole outer f
  outer_steps items.Hat heads item s whole outer f = outer_heads heads item s whole outer f
  outer_steps _ heads item s whole outer f = putting_item heads Kept item s f

  run_steps : (run : Run) (kind : ItemKind) (heads : ℕ) (item : ItemValue) (s : CutState) → IsItem item →
      s.phase ≡ Skipping run → Is heads s
      → Step heads item (opens_profile kind) (heads == c.profile) (run_item run kind item s)
  unfolding run_item
  run_steps run items.Profile heads item s whole is f = run_heads heads run item s whole is f
  run_steps run items.Hat heads item s whole is f = run_heads heads run item s whole is f
  run_steps run items.Close heads item s whole is f = run_closes heads run item s is f
  run_steps run _ heads item s whole is f = passing heads _ s f

  plain_steps : (phase : Phase) (heads : ℕ) (item : ItemValue) (s : CutState) → IsItem item → s.phase ≡ phase → Is heads s
      → Step heads item (opens_profile item.kind) (heads == c.profile) (plain_item phase item s)
  unfolding plain_item
  plain_steps Outer heads item s whole is f = outer_steps item.kind heads item s whole
      (subst (λ (p : Phase). IsBefore p s.depth) is f.before) f
  plain_steps (Skipping run) heads item s whole is f = run_steps run item.kind heads item s whole is f
  plain_steps Chosen heads item s whole is f = absurd (subst (λ (p : Phase). IsBefore p s.depth) is f.before)

  item_steps : (reading : RuleReading) (heads : ℕ) (item : ItemValue) (s : CutState) → IsItem item → Is heads s
      → Step heads item (opens_profile item.kind) (heads == c.profile) (cut_item reading item s)
  item_steps reading heads item s whole f =
      subst (λ (b : Bool). Step heads item (opens_profile item.kind) (heads == c.profile)
      (cond b (chosen_rule reading item s) (plain_item s.phase item s)))
      (sym (not_chosen s.phase s.depth (is_rule item.kind) f.before)) (plain_steps s.phase heads item s whole refl f)

  from_here : (reading : ItemValue → RuleReading) (items : List ItemValue) (heads : ℕ) (s : CutState) → Each IsItem items → Is heads s
      → Tells on R (finished (cut_items reading items s)).spans → R (mode_change (mode_from c.profile heads items))
  from_here reading [] heads s whole f h = exact
  from_here reading (item ∷ items) heads s whole f h =
      at (opens_profile item.kind) (heads == c.profile) (item_steps (reading item) heads item s whole.0 f)
      (λ next g. from_here reading items next (cut_item (reading item) item s) whole.1 g h)
    where
      at : (opens is : Bool) → Step heads item opens is (cut_item (reading item) item s)
          → ((next : ℕ) → Is next (cut_item (reading item) item s) → R (mode_change (mode_from c.profile next items)))
          → R (mode_change (cond opens (cond is (mode_of_head item.parts) (mode_from c.profile (suc heads) items))
          (mode_from c.profile heads items)))
      at false is g others = others heads g
      at true false g others = others (suc heads) g
      at true true g others = g (before_end on R reading items (cut_item (reading item) item s) h)

  pub mode_told : (reading : ItemValue → RuleReading) (items : List ItemValue) → Each IsItem items
      → Tells on R (cut_of reading c items).spans → R (mode_change (mode_from c.profile 0 items))
  mode_told reading items whole h =
      from_here reading items 0 (at_start c) whole (record { choice = refl; heads_are = refl; fits = omega arith; before = refl }) h
