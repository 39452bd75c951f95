-- The items of a text, one after another.
use Rattle.std.proofs.Common.{◌≡◌, ℕ, List, [], ◌∷◌, ◌++◌, refl, sym, subst, append_assoc, arith}
use Rattle.std.proofs.lemmas.List.{append-nil}
use Rattle.rule_globs.specs.Each.{Each}
use Rattle.apparmor_text.specs.SoundItems.{IsItem}
use Rattle.apparmor_text.specs.Parts.{ItemValue, bytes_of_parts, bytes_of_items}
use Rattle.import_spans.specs.declared.cut.Phase.{Phase}
use Rattle.import_spans.specs.declared.cut.Phase.TheVariants.{Skipping}
use Rattle.import_spans.specs.declared.context.Choice.{Choice}
use Rattle.import_spans.specs.declared.context.RuleReading.{RuleReading}
use Rattle.import_spans.specs.declared.span.Span.{Span}
use Rattle.import_spans.specs.declared.span.SpanKind.TheVariants.{Blank}
use Rattle.import_spans.specs.CutStates.{CutState, at_start}
use Rattle.import_spans.specs.Cuts.{rest_kind, finished, cut_item, cut_items, cut_of}
use Rattle.import_spans.specs.Spans.{stops}
use Rattle.import_spans.proofs.CutSteps.{Good, Is, putting, put_settles, items_go}

-- what is in no span yet isn't blank
rest_is_no_blank : (s : CutState) (phase : Phase) → rest_kind s.choice.subject phase ≡ Blank → ⊥
rest_is_no_blank s (Skipping run) e = cc
rest_is_no_blank s _ e = cc

module _ (B : Type 0) (Q : List Span → Type 0) (grow : (spans : List Span) (span : Span) → Q spans → Q (spans ++ (span ∷ [])))
    (c : Choice) where
  pub start_is_good : Q [] → Good B Q grow c [] (at_start c)
  start_is_good q = (record { choice = refl; at = refl; covers = stops 0; fits = omega arith; right = λ b. tt; more = q }, λ e. refl)

  pub all_go : (reading : ItemValue → RuleReading) (items : List ItemValue) (before : List ℕ) (s : CutState) → (B → Each IsItem items)
      → Good B Q grow c before s → Good B Q grow c (before ++ bytes_of_items items) (cut_items reading items s)
  all_go reading [] before s whole g = subst (λ (x : List ℕ). Good B Q grow c x s) (sym (append-nil before)) g
  all_go reading (item ∷ items) before s whole g =
      let next = items_go B Q grow c before (reading item) item s (λ b. (whole b).0) g in
      let all = all_go reading items (before ++ bytes_of_parts item.parts) (cut_item (reading item) item s) (λ b. (whole b).1) next in
      subst (λ (x : List ℕ). Good B Q grow c x (cut_items reading items (cut_item (reading item) item s)))
      (append_assoc before (bytes_of_parts item.parts) (bytes_of_items items)) all

  pub end_is_fine : (before : List ℕ) (s : CutState) → Good B Q grow c before s → Is B Q grow c before (finished s)
      × ((finished s).from ≡ (finished s).at)
  end_is_fine before s g = (
    putting B Q grow c before (rest_kind s.choice.subject s.phase) s g.0 (λ b e. absurd (rest_is_no_blank s s.phase e)),
    put_settles (rest_kind s.choice.subject s.phase) s,
  )

  pub whole_cut : (reading : ItemValue → RuleReading) (items : List ItemValue) → (B → Each IsItem items) → Q []
      → Is B Q grow c (bytes_of_items items) (cut_of reading c items) × ((cut_of reading c items).from ≡ (cut_of reading c items).at)
  whole_cut reading items whole q =
      end_is_fine (bytes_of_items items) (cut_items reading items (at_start c))
      (all_go reading items [] (at_start c) whole (start_is_good q))
