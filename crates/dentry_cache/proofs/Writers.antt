-- A seat that isn't the keeper's writes nothing.
use Rattle.std.proofs.Common.{◌≡◌, ℕ, List, ◌∷◌, set, sym, ap, ◌∙◌}
use mathlib.Core.Option.{some, some-injective}
use lib.ListN.{get_elem?}
use Rattle.tree_row.specs.Rows.{row_length}
use Rattle.row_rule.specs.declared.view.KeeperView.{KeeperView}
use Rattle.row_rule.specs.declared.view.WalkerView.{WalkerView}
use Rattle.row_rule.specs.declared.view.View.{View}
use Rattle.row_rule.specs.declared.view.View.TheVariants.{Keeps, Walks}
use Rattle.row_rule.specs.Row.{Holds, count_of}
use Rattle.row_rule.specs.laws.Lists.{set_else}
use Rattle.row_rule.specs.laws.Rule.{apart}
use Rattle.row_plan.specs.Changes.{EncodesChanges}
use Rattle.dentry_cache.specs.Seats.{keeper_of}

pub walkers_write_nothing : (capacity id i n : ℕ) (w : WalkerView) (v : View) (words : List ℕ) (views : List View)
    → Holds (EncodesChanges capacity) (row_length capacity) words views → get_elem? views id ≡ some (Walks w)
    → Holds (EncodesChanges capacity) (row_length capacity) (set words i n) (set views id v) → set words i n ≡ words
walkers_write_nothing capacity id i n w v words views (k, before) walks (k', after) =
    let other = apart (EncodesChanges capacity) (row_length capacity) k w views id before.seated walks in
    let stays : get_elem? (set views id v) 0 ≡ get_elem? views 0 = set_else views id 0 v (λ e. other (sym e)) in
    let same : some (Keeps k') ≡ some (Keeps k) = sym after.seated ∙ (stays ∙ before.seated) in
    let one : k' ≡ k = ap keeper_of (some-injective (Keeps k') (Keeps k) same) in
    after.words_are ∙ (ap (λ (x : KeeperView). count_of x ∷ x.cells) one ∙ sym before.words_are)
