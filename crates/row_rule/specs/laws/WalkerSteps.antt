-- Each step of a walker keeps the rule, and gives the walker what it may know.
use Rattle.std.proofs.Common.{◌≡◌, ℕ, ◌+◌, ◌%◌, ◌<◌, List, [], ◌∷◌, ◌++◌, get_or, set, Some, sym, refl, ap, ◌∙◌, arith, add-one}
use Rattle.std.proofs.lemmas.Option.{slice_get-get_or}
use Rattle.std.specs.Prelude.{slice_get, slice_index}
use mathlib.Core.Option.{some}
use lib.ListN.{get_elem?}
use Rattle.directory_tree.specs.declared.change.Change.{Change}
use Rattle.row_rule.specs.declared.view.KeeperView.{KeeperView}
use Rattle.row_rule.specs.declared.view.WalkerView.{WalkerView}
use Rattle.row_rule.specs.declared.view.View.{View}
use Rattle.row_rule.specs.declared.view.View.TheVariants.{Walks}
use Rattle.row_rule.specs.Row.{count_of, Agrees, FitsWalker, KeptBy}
use Rattle.row_rule.specs.Steps.{newcomer, beginning, reading, ending, Sees}
use Rattle.row_rule.specs.laws.Lists.{prefix_self}
use Rattle.row_rule.specs.laws.Rule.{newcomer_fits, walker_fits, count_is, half_word, even_encodes, walker_moved, walker_added}

module _ (Encodes : List ℕ → List Change → Type 0) (size : ℕ) where
  pub enters : (k : KeeperView) (words : List ℕ) (views : List View) → KeptBy Encodes size k words views →
      KeptBy Encodes size k words (views ++ Walks newcomer ∷ [])
  enters k words views r = walker_added Encodes size k newcomer words views r (newcomer_fits k)

  pub sees_count : (k : KeeperView) (w : WalkerView) (id : ℕ) (words : List ℕ) (views : List View) → KeptBy Encodes size k words views →
      get_elem? views id ≡ some (Walks w) → Sees w (slice_index words 0) k.history
  sees_count k w id words views r at =
      let f : FitsWalker k w = walker_fits Encodes size k w id words views r at in
      let e = count_is Encodes size k words views r in
      let low = f.last_low in (f.begins, half_word Encodes size k words views r, (omega arith))

  pub begins_walk : (k : KeeperView) (w : WalkerView) (id : ℕ) (words : List ℕ) (views : List View) → KeptBy Encodes size k words views →
      get_elem? views id ≡ some (Walks w)
      → KeptBy Encodes size k words (set views id (Walks (beginning w (slice_index words 0) k.history)))
  begins_walk k w id words views r at =
      let c : ℕ = slice_index words 0 in
      let e : c ≡ count_of k = count_is Encodes size k words views r in
      walker_moved Encodes size k w (beginning w c k.history) id words views r at record {
        begins = prefix_self k.history;
        half = half_word Encodes size k words views r;
        noted_low = omega arith;
        last_low = omega arith;
        still = λ _ _. (refl, tt);
      }

  pub ends_walk : (k : KeeperView) (w : WalkerView) (id : ℕ) (words : List ℕ) (views : List View) → KeptBy Encodes size k words views →
      get_elem? views id ≡ some (Walks w)
      → KeptBy Encodes size k words (set views id (Walks (ending w (slice_index words 0) k.history)))
  ends_walk k w id words views r at =
      let c : ℕ = slice_index words 0 in
      let e : c ≡ count_of k = count_is Encodes size k words views r in
      let f : FitsWalker k w = walker_fits Encodes size k w id words views r at in
      walker_moved Encodes size k w (ending w c k.history) id words views r at record {
        begins = prefix_self k.history;
        half = half_word Encodes size k words views r;
        noted_low = f.noted_low;
        last_low = omega arith;
        still = λ even stands. (refl, (f.still even stands).1);
      }

  -- where the count is unchanged and even, the row encodes the history, and holds all that was read
  pub was_whole : (k : KeeperView) (w : WalkerView) (id : ℕ) (words : List ℕ) (views : List View) → KeptBy Encodes size k words views →
      get_elem? views id ≡ some (Walks w)
      → slice_index words 0 ≡ w.noted → w.noted % 2 ≡ 0 → (w.seen ≡ k.history) × Encodes k.cells k.history × Agrees w.reads k.cells
  was_whole k w id words views r at found even =
      let stands : w.noted ≡ count_of k = sym found ∙ count_is Encodes size k words views r in
      let f : FitsWalker k w = walker_fits Encodes size k w id words views r at in
      let t = f.still even stands in (t.0, even_encodes Encodes size k words views r (ap (λ (z : ℕ). z % 2) found ∙ even), t.1)

  -- the word at a place after the count is the cell's
  pub cell_word : (k : KeeperView) (place : ℕ) (words : List ℕ) (views : List View) → KeptBy Encodes size k words views →
      slice_index words (place + 1) ≡ slice_index k.cells place
  cell_word k place words views r = ap (λ (ws : List ℕ). get_or ws (place + 1) 0) r.words_are ∙ rw add-one refl

  pub reads_cell : (k : KeeperView) (w : WalkerView) (place : ℕ) (id : ℕ) (words : List ℕ) (views : List View) →
      KeptBy Encodes size k words views → get_elem? views id ≡ some (Walks w) → place < size
      → KeptBy Encodes size k words (set views id (Walks (reading w record { place = place; word = slice_index words (place + 1) })))
  reads_cell k w place id words views r at inside =
      let f : FitsWalker k w = walker_fits Encodes size k w id words views r at in
      let long = r.long in
      let stands : slice_get k.cells place ≡ Some (slice_index words (place + 1)) = slice_get-get_or k.cells place 0 (omega arith)
      ∙ ap Some (sym (cell_word k place words views r)) in
      walker_moved Encodes size k w (reading w record { place = place; word = slice_index words (place + 1) }) id words views r at record {
        begins = f.begins;
        half = f.half;
        noted_low = f.noted_low;
        last_low = f.last_low;
        still = λ even count. let t = f.still even count in (t.0, (stands, t.1));
      }
