-- Each kind of step is allowed at the table: the rule's laws, stated for the table's states.
use Rattle.std.proofs.Common.{◌≡◌, ℕ, ◌+◌, ◌%◌, ◌<◌, List, [], ◌∷◌, ◌++◌, get_or, set, Some, None, sym, refl, ap, ◌∙◌, subst, arith}
use lib.Seq.{set-get_or}
use mathlib.Core.Option.{some}
use lib.ListN.{get_elem?}
use Rattle.atomic_table.specs.Table.{State, keeps, Allows, Enters, Splits, Joins}
use Rattle.directory_tree.specs.declared.change.Change.{Change}
use Rattle.tree_row.specs.Rows.{row_length}
use Rattle.row_rule.specs.declared.cell.Cell.{Cell}
use Rattle.row_rule.specs.declared.view.KeeperView.{KeeperView}
use Rattle.row_rule.specs.declared.view.WalkerView.{WalkerView}
use Rattle.row_rule.specs.declared.view.View.{View}
use Rattle.row_rule.specs.declared.view.View.TheVariants.{Keeps, Walks}
use Rattle.row_rule.specs.Row.{write, count_of, KeptBy, Holds}
use Rattle.row_rule.specs.Steps.{newcomer, beginning, reading, ending, opening, setting, closing, meeting}
use Rattle.row_rule.specs.laws.Lists.{set_else, set_again}
use Rattle.row_rule.specs.laws.Rule.{loaded}
use Rattle.row_rule.specs.laws.WalkerSteps as walker
use Rattle.row_rule.specs.laws.KeeperSteps as keeper
use Rattle.row_rule.specs.laws.Meetings as meeting_of
use Rattle.row_plan.specs.Changes.{EncodesChanges}
use Rattle.dentry_cache.proofs.SeenWalks.{sees_after}
use Rattle.dentry_cache.specs.Seats.{Mine, walker_of, keeper_of, walking, keeping, IsWalking, IsKeeping}
use Rattle.dentry_cache.specs.Told.{KeepsRule, HasEntered, HasBegun, HasRead, HasEnded, HasLooked, HasOpened, HasSet, HasClosed, lent_view}
use Rattle.dentry_cache.specs.Told.{met_view, IsTold}

-- a seat that keeps exactly this
pub kept_as : (m : Mine) (k : KeeperView) → m ≡ keeping k → IsKeeping m × (keeper_of m.0 ≡ k)
kept_as m k e = subst (λ (z : Mine). IsKeeping z × (keeper_of z.0 ≡ k)) (sym e) (refl, refl)

abbrev St : Type 0
St = State (Unit {0}) View

at_walker : (s : St) (id : ℕ) (me : Mine) → IsWalking me → get_elem? s.views id ≡ some me.0 → get_elem? s.views id
    ≡ some (Walks (walker_of me.0))
at_walker s id me is at = at ∙ ap (λ (m : Mine). some m.0) is

at_keeper : (s : St) (id : ℕ) (me : Mine) → IsKeeping me → get_elem? s.views id ≡ some me.0 → get_elem? s.views id
    ≡ some (Keeps (keeper_of me.0))
at_keeper s id me is at = at ∙ ap (λ (m : Mine). some m.0) is

carries : (me : Mine) (w : WalkerView) → IsWalking me → ◌≡◌ {A = Mine} (Walks w, me.1) (walking w)
carries me w is = ap (λ (m : Mine). (Walks w, m.1)) is

carries_keeper : (me : Mine) (k : KeeperView) → IsKeeping me → ◌≡◌ {A = Mine} (Keeps k, me.1) (keeping k)
carries_keeper me k is = ap (λ (m : Mine). (Keeps k, m.1)) is

same_place : (a b : ℕ) → a + 1 ≡ b + 1 → a ≡ b
same_place a b e = omega arith

module _ (capacity : ℕ) where
  abbrev Enc : List ℕ → List Change → Type 0
  Enc = EncodesChanges capacity

  abbrev size : ℕ
  size = row_length capacity

  pub enters : (slots : ℕ) (me : Mine) → Enters (KeepsRule capacity) slots 0 (λ n w. HasEntered (w, []))
  enters slots me s (k, r) _ _ = (Walks newcomer, (k, walker.enters Enc size k s.words s.views r), refl)

  pub begins : (slots id : ℕ) (me : Mine) → IsWalking me → Allows (KeepsRule capacity) slots id me 0 (λ n. n) (HasBegun me)
  begins slots id me is s (k, r) _ at _ =
      let old : WalkerView = walker_of me.0 in
      let here = at_walker s id me is at in
      let w : WalkerView = beginning old (get_or s.words 0 0) k.history in (
        Walks w,
        keeps,
        tt,
        (k, loaded Enc size k 0 s.words (set s.views id (Walks w)) (walker.begins_walk Enc size k old id s.words s.views r here)),
        (k.history, carries me w is, walker.sees_count Enc size k old id s.words s.views r here),
      )

  pub ends : (slots id : ℕ) (me : Mine) → IsWalking me → Allows (KeepsRule capacity) slots id me 0 (λ n. n) (HasEnded capacity me)
  ends slots id me is s (k, r) _ at _ =
      let old : WalkerView = walker_of me.0 in
      let here = at_walker s id me is at in
      let c : ℕ = get_or s.words 0 0 in
      let w : WalkerView = ending old c k.history in (
        Walks w,
        keeps,
        tt,
        (k, loaded Enc size k 0 s.words (set s.views id (Walks w)) (walker.ends_walk Enc size k old id s.words s.views r here)),
        (
          k.history,
          carries me w is,
          walker.sees_count Enc size k old id s.words s.views r here,
          λ found even.
              let t = walker.was_whole Enc size k old id s.words s.views r here found (ap (λ (z : ℕ). z % 2) (sym found) ∙ even) in
              (t.0, sees_after capacity old.reads k.history k.cells t.1 t.2),
        ),
      )

  pub reads : (slots id place : ℕ) (me : Mine) → IsWalking me → place < size → Allows (KeepsRule capacity) slots id me (place + 1) (λ n. n)
      (HasRead (place + 1) me)
  reads slots id place me is within s (k, r) _ at _ =
      let old : WalkerView = walker_of me.0 in
      let here = at_walker s id me is at in
      let word : ℕ = get_or s.words (place + 1) 0 in
      let w : WalkerView = reading old record { place = place; word = word } in (
        Walks w,
        keeps,
        tt,
        (
          k,
          loaded Enc size k (place + 1) s.words (set s.views id (Walks w))
              (walker.reads_cell Enc size k old place id s.words s.views r here within),
        ),
        λ p e. carries me w is ∙ ap (λ (z : ℕ). walking (reading old record { place = z; word = word })) (same_place place p e),
      )

  pub looks : (slots id word : ℕ) (me : Mine) → IsKeeping me → Allows (KeepsRule capacity) slots id me word (λ n. n) (HasLooked word me)
  looks slots id word me is s held _ at _ =
      let k : KeeperView = keeper_of me.0 in
      let here = at_keeper s id me is at in
      let n : ℕ = get_or s.words word 0 in
      let stays : KeepsRule capacity record { words = set s.words word n; homes = s.homes; views = set s.views id me.0 } =
      subst (λ (z : List ℕ × List View). Holds Enc size z.0 z.1)
      (λ i. (sym (set-get_or s.words word 0) i, sym (set_again s.views id me.0 at) i)) held in (
        me.0,
        keeps,
        tt,
        stays,
        (refl, keeper.reads_word Enc size k id word s.words s.views held here),
      )

  pub opens : (slots id n : ℕ) (me : Mine) (change : Change) (plan : List Cell) → IsKeeping me → (keeper_of me.0).pending ≡ None →
      n ≡ count_of (keeper_of me.0) + 1
      → Enc (write (keeper_of me.0).cells plan) ((keeper_of me.0).history ++ change ∷ [])
      → Allows (KeepsRule capacity) slots id me 0 (λ _. n) (λ _. HasOpened change plan me)
  opens slots id n me change plan is shut up plans s held _ at _ =
      let k : KeeperView = keeper_of me.0 in
      let here = at_keeper s id me is at in
      let k' : KeeperView = opening k change plan in (
        Keeps k',
        keeps,
        tt,
        (
          k',
          subst (λ (z : ℕ). KeptBy Enc size k' (set s.words 0 z) (set s.views id (Keeps k'))) (sym up)
              (keeper.opens Enc size k change plan id s.words s.views held here shut plans),
        ),
        carries_keeper me k' is,
      )

  pub closes : (slots id n : ℕ) (me : Mine) (change : Change) → IsKeeping me → (keeper_of me.0).pending
      ≡ Some record { change = change; left = [] } → n ≡ count_of (keeper_of me.0) + 1
      → Allows (KeepsRule capacity) slots id me 0 (λ _. n) (λ _. HasClosed me)
  closes slots id n me change is pending up s held _ at _ =
      let k : KeeperView = keeper_of me.0 in
      let here = at_keeper s id me is at in
      let k' : KeeperView = closing k in (
        Keeps k',
        keeps,
        tt,
        (
          k',
          subst (λ (z : ℕ). KeptBy Enc size k' (set s.words 0 z) (set s.views id (Keeps k'))) (sym up)
              (keeper.closes Enc size k change id s.words s.views held here pending),
        ),
        carries_keeper me k' is,
      )

  pub sets : (slots id : ℕ) (cell : Cell) (me : Mine) (change : Change) (left : List Cell) → IsKeeping me → (keeper_of me.0).pending
      ≡ Some record { change = change; left = cell ∷ left }
      → Allows (KeepsRule capacity) slots id me (cell.place + 1) (λ _. cell.word) (λ _. HasSet (cell.place + 1) cell.word me)
  sets slots id cell me change left is pending s held _ at _ =
      let k : KeeperView = keeper_of me.0 in
      let here = at_keeper s id me is at in
      let k' : KeeperView = setting k cell in (
        Keeps k',
        keeps,
        tt,
        (k', keeper.sets_cell Enc size k change cell left id s.words s.views held here pending),
        λ p e. carries_keeper me k' is ∙ ap (λ (z : ℕ). keeping (setting k record { place = z; word = cell.word }))
            (same_place cell.place p e),
      )

  pub lends : (id : ℕ) (me : Mine) → IsKeeping me → Splits (KeepsRule capacity) id me.0 me.0 (lent_view me.0)
  lends id me is s held at =
      let k : KeeperView = keeper_of me.0 in
      let here = at_keeper s id me is at in
      subst (λ (views : List View). Holds Enc size s.words (views ++ lent_view me.0 ∷ [])) (sym (set_again s.views id me.0 at))
      (k, meeting_of.lends Enc size k id s.words s.views held here)

  pub takes_in : (id other : ℕ) (me you : Mine) → IsKeeping me → IsWalking you → Joins (KeepsRule capacity) id me.0 other you.0
      (met_view me.0 you.0) (Walks newcomer)
  takes_in id other me you is walks s held at away there =
      let k : KeeperView = keeper_of me.0 in
      let here = at_keeper s id me is at in
      let was : get_elem? s.views other ≡ some (Walks (walker_of you.0)) = sym (set_else s.views id other (met_view me.0 you.0) away)
      ∙ (there ∙ ap (λ (m : Mine). some m.0) walks) in
      (meeting k (walker_of you.0).seen, meeting_of.takes_in Enc size k (walker_of you.0) id other s.words s.views held here was)

  pub learns : (slots id : ℕ) (me : Mine) → IsKeeping me → Allows (KeepsRule capacity) slots id me 0 (λ n. n) (λ _. IsTold me)
  learns slots id me is s held _ at _ =
      let k : KeeperView = keeper_of me.0 in
      let here = at_keeper s id me is at in
      let k' : KeeperView = meeting k [] in (
        Keeps k',
        keeps,
        tt,
        (k', loaded Enc size k' 0 s.words (set s.views id (Keeps k')) (meeting_of.is_told Enc size k id s.words s.views held here)),
        (carries_keeper me k' is, meeting_of.met_begins Enc size k id s.words s.views held here),
      )
