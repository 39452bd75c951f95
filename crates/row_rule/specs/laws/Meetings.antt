-- The three loads of a meeting keep the rule, and show the keeper that what the walker had seen is a prefix of its history.
use Rattle.std.proofs.Common.{◌≡◌, ◌≢◌, ℕ, List, [], ◌∷◌, ◌++◌, set, sym, refl, ◌∙◌, subst, le_refl}
use mathlib.Core.Option.{some}
use mathlib.Core.List.{IsPrefix}
use lib.ListN.{get_elem?}
use Rattle.directory_tree.specs.declared.change.Change.{Change}
use Rattle.row_rule.specs.declared.view.KeeperView.{KeeperView}
use Rattle.row_rule.specs.declared.view.WalkerView.{WalkerView}
use Rattle.row_rule.specs.declared.view.View.{View}
use Rattle.row_rule.specs.declared.view.View.TheVariants.{Keeps, Walks}
use Rattle.row_rule.specs.Row.{count_of, FitsWalker, KeptBy, Holds}
use Rattle.row_rule.specs.Steps.{newcomer, lent_by, meeting}
use Rattle.row_rule.specs.laws.Lists.{set_else, prefix_self, prefix_none}
use Rattle.row_rule.specs.laws.Rule.{half_count, newcomer_fits, apart, walker_fits, keeper_at, walker_moved, walker_added, keeper_moved}

meeting_fits : (k : KeeperView) (seen : List Change) (w : WalkerView) → FitsWalker k w → FitsWalker (meeting k seen) w
meeting_fits k seen w f = record { begins = f.begins; half = f.half; noted_low = f.noted_low; last_low = f.last_low; still = f.still }

module _ (Encodes : List ℕ → List Change → Type 0) (size : ℕ) where
  pub lends : (k : KeeperView) (id : ℕ) (words : List ℕ) (views : List View) → Holds Encodes size words views → get_elem? views id
      ≡ some (Keeps k) → KeptBy Encodes size k words (views ++ Walks (lent_by k) ∷ [])
  lends k id words views held at =
      walker_added Encodes size k (lent_by k) words views (keeper_at Encodes size k id words views held at).1
      record {
        begins = prefix_self k.history;
        half = half_count k;
        noted_low = le_refl (count_of k);
        last_low = le_refl (count_of k);
        still = λ _ _. (refl, tt);
      }

  noted : (k : KeeperView) (seen : List Change) (id : ℕ) (words : List ℕ) (views : List View) → Holds Encodes size words views →
      get_elem? views id ≡ some (Keeps k) → IsPrefix seen k.history
      → KeptBy Encodes size (meeting k seen) words (set views id (Keeps (meeting k seen)))
  noted k seen id words views held at begins =
      let t = keeper_at Encodes size k id words views held at in
      let k' : KeeperView = meeting k seen in
      subst (λ (seat : ℕ). KeptBy Encodes size k' words (set views seat (Keeps k'))) (sym t.0)
      (keeper_moved Encodes size k k' words words views t.1 t.1.long t.1.words_are t.1.encodes begins (meeting_fits k seen))

  pub takes_in : (k : KeeperView) (w : WalkerView) (id other : ℕ) (words : List ℕ) (views : List View) → Holds Encodes size words views →
      get_elem? views id ≡ some (Keeps k) → get_elem? views other ≡ some (Walks w)
      → KeptBy Encodes size (meeting k w.seen) words (set (set views id (Keeps (meeting k w.seen))) other (Walks newcomer))
  takes_in k w id other words views held at walks =
      let t = keeper_at Encodes size k id words views held at in
      let k' : KeeperView = meeting k w.seen in
      let away : other ≢ id = λ e. apart Encodes size k w views other t.1.seated walks (e ∙ t.0) in
      let f : FitsWalker k w = walker_fits Encodes size k w other words views t.1 walks in
      walker_moved Encodes size k' w newcomer other words (set views id (Keeps k')) (noted k w.seen id words views held at f.begins)
      (set_else views id other (Keeps k') away ∙ walks) (newcomer_fits k')

  pub is_told : (k : KeeperView) (id : ℕ) (words : List ℕ) (views : List View) → Holds Encodes size words views → get_elem? views id
      ≡ some (Keeps k) → KeptBy Encodes size (meeting k []) words (set views id (Keeps (meeting k [])))
  is_told k id words views held at = noted k [] id words views held at (prefix_none k.history)

  pub met_begins : (k : KeeperView) (id : ℕ) (words : List ℕ) (views : List View) → Holds Encodes size words views → get_elem? views id
      ≡ some (Keeps k) → IsPrefix k.met k.history
  met_begins k id words views held at = (keeper_at Encodes size k id words views held at).1.met_begins
