-- Each step of the keeper keeps the rule. What the cells encode follows from the keeper's own view and its plan alone.
use Rattle.std.proofs.Common.{◌≡◌, ℕ, ◌+◌, ◌*◌, List, [], ◌∷◌, ◌++◌, length, set, Some, None, sym, refl, ap, ◌∙◌, subst, arith}
use Rattle.std.proofs.Common.{length-append, length-set, add-one}
use Rattle.std.specs.Prelude.{Option, slice_index}
use mathlib.Core.Option.{some}
use mathlib.Core.List.{IsPrefix}
use lib.ListN.{get_elem?}
use Rattle.directory_tree.specs.declared.change.Change.{Change}
use Rattle.row_rule.specs.declared.cell.Cell.{Cell}
use Rattle.row_rule.specs.declared.view.Pending.{Pending}
use Rattle.row_rule.specs.declared.view.KeeperView.{KeeperView}
use Rattle.row_rule.specs.declared.view.View.{View}
use Rattle.row_rule.specs.declared.view.View.TheVariants.{Keeps}
use Rattle.row_rule.specs.Row.{write, pending_count, left_of, target_of, count_of, KeptBy, Holds}
use Rattle.row_rule.specs.Steps.{opening, one_fewer, setting, closing, IsLater}
use Rattle.row_rule.specs.laws.Lists.{prefix_self, prefix_snoc}
use Rattle.row_rule.specs.laws.Rule.{later_fits, odd_fits, keeper_at, keeper_moved}

abbrev count_with : KeeperView → Option Pending → ℕ
count_with k p = 2 * length k.history + pending_count p

set_word : (c : ℕ) (cs : List ℕ) (place word : ℕ) → set (c ∷ cs) (place + 1) word ≡ c ∷ set cs place word
set_word c cs place word = rw add-one refl

pub opening_count : (k : KeeperView) (change : Change) (plan : List Cell) → k.pending ≡ None → count_of (opening k change plan)
    ≡ count_of k + 1
opening_count k change plan shut = let was : count_of k ≡ 2 * length k.history + 0 = ap (count_with k) shut in omega arith

closed_history : (k : KeeperView) (change : Change) (left : List Cell) → k.pending ≡ Some record { change = change; left = left } →
    (closing k).history ≡ k.history ++ change ∷ []
closed_history k change left pending = ap (target_of k.history) pending

pub closing_count : (k : KeeperView) (change : Change) (left : List Cell) → k.pending ≡ Some record { change = change; left = left } →
    count_of (closing k) ≡ count_of k + 1
closing_count k change left pending =
    let was : count_of k ≡ 2 * length k.history + 1 = ap (count_with k) pending in
    let longer : length (closing k).history ≡ length k.history + 1 = ap length (closed_history k change left pending)
    ∙ length-append k.history (change ∷ []) in
    omega arith

closing_begins : (k : KeeperView) (change : Change) (left : List Cell) → k.pending ≡ Some record { change = change; left = left } →
    (seen : List Change) → IsPrefix seen k.history → IsPrefix seen (closing k).history
closing_begins k change left pending seen p = subst (IsPrefix seen) (sym (closed_history k change left pending))
    (prefix_snoc seen k.history change p)

setting_count : (k : KeeperView) (change : Change) (cell : Cell) (left : List Cell) → k.pending ≡ Some record {
  change = change;
  left =
      cell ∷ left;
} → count_of (setting k cell) ≡ count_of k
setting_count k change cell left pending = ap (λ (p : Option Pending). count_with k (one_fewer p)) pending
    ∙ sym (ap (count_with k) pending)

pub opening_later : (k : KeeperView) (change : Change) (plan : List Cell) → k.pending ≡ None → IsLater k (opening k change plan)
opening_later k change plan shut = let more = opening_count k change plan shut in (prefix_self k.history, omega arith)

pub setting_later : (k : KeeperView) (change : Change) (cell : Cell) (left : List Cell) → k.pending ≡ Some record {
  change = change;
  left =
      cell ∷ left;
} → IsLater k (setting k cell)
setting_later k change cell left pending = let same = setting_count k change cell left pending in (prefix_self k.history, omega arith)

pub closing_later : (k : KeeperView) (change : Change) → k.pending ≡ Some record { change = change; left = [] } → IsLater k (closing k)
closing_later k change pending = let more = closing_count k change [] pending in
    (closing_begins k change [] pending k.history (prefix_self k.history), omega arith)

module _ (Encodes : List ℕ → List Change → Type 0) (size : ℕ) where
  -- a step at the keeper's seat is one at seat 0
  at_seat : (k k' : KeeperView) (id : ℕ) (words words' : List ℕ) (views : List View) → Holds Encodes size words views →
      get_elem? views id ≡ some (Keeps k)
      → (KeptBy Encodes size k words views → KeptBy Encodes size k' words' (set views 0 (Keeps k'))) → KeptBy Encodes size k' words'
      (set views id (Keeps k'))
  at_seat k k' id words words' views held at step =
      let t = keeper_at Encodes size k id words views held at in
      subst (λ (seat : ℕ). KeptBy Encodes size k' words' (set views seat (Keeps k'))) (sym t.0) (step t.1)

  pub reads_word : (k : KeeperView) (id i : ℕ) (words : List ℕ) (views : List View) → Holds Encodes size words views → get_elem? views id
      ≡ some (Keeps k) → slice_index words i ≡ slice_index (count_of k ∷ k.cells) i
  reads_word k id i words views held at = let t = keeper_at Encodes size k id words views held at in
      ap (λ (ws : List ℕ). slice_index ws i) t.1.words_are

  counted : (k : KeeperView) (n : ℕ) (words : List ℕ) → words ≡ count_of k ∷ k.cells → n ≡ count_of k + 1 →
      set words 0 (count_of k + 1) ≡ n ∷ k.cells
  counted k n words words_are more = ap (λ (ws : List ℕ). set ws 0 (count_of k + 1)) words_are ∙ ap (λ (z : ℕ). z ∷ k.cells) (sym more)

  pub opens : (k : KeeperView) (change : Change) (plan : List Cell) (id : ℕ) (words : List ℕ) (views : List View) →
      Holds Encodes size words views → get_elem? views id ≡ some (Keeps k) → k.pending ≡ None
      → Encodes (write k.cells plan) (k.history ++ change ∷ []) → KeptBy Encodes size (opening k change plan)
      (set words 0 (count_of k + 1)) (set views id (Keeps (opening k change plan)))
  opens k change plan id words views held at shut plans =
      let k' : KeeperView = opening k change plan in
      let more : count_of k' ≡ count_of k + 1 = opening_count k change plan shut in
      at_seat k k' id words (set words 0 (count_of k + 1)) views held at (λ r.
      keeper_moved Encodes size k k' words (set words 0 (count_of k + 1)) views r r.long (counted k (count_of k') words r.words_are more)
      plans r.met_begins (later_fits k k' (omega arith) (λ seen p. p)))

  pub closes : (k : KeeperView) (change : Change) (id : ℕ) (words : List ℕ) (views : List View) → Holds Encodes size words views →
      get_elem? views id ≡ some (Keeps k) → k.pending ≡ Some record { change = change; left = [] }
      → KeptBy Encodes size (closing k) (set words 0 (count_of k + 1)) (set views id (Keeps (closing k)))
  closes k change id words views held at pending =
      let k' : KeeperView = closing k in
      let more : count_of k' ≡ count_of k + 1 = closing_count k change [] pending in
      let begins : (seen : List Change) → IsPrefix seen k.history → IsPrefix seen k'.history = closing_begins k change [] pending in
      at_seat k k' id words (set words 0 (count_of k + 1)) views held at (λ r.
      keeper_moved Encodes size k k' words (set words 0 (count_of k + 1)) views r r.long (counted k (count_of k') words r.words_are more)
      (subst (λ (xs : List Cell). Encodes (write k.cells xs) k'.history) (ap left_of pending) r.encodes)
      (begins k.met r.met_begins)
      (later_fits k k' (omega arith) begins))

  pub sets_cell : (k : KeeperView) (change : Change) (cell : Cell) (left : List Cell) (id : ℕ) (words : List ℕ) (views : List View) →
      Holds Encodes size words views → get_elem? views id ≡ some (Keeps k)
      → k.pending ≡ Some record { change = change; left = cell ∷ left } → KeptBy Encodes size (setting k cell)
      (set words (cell.place + 1) cell.word) (set views id (Keeps (setting k cell)))
  sets_cell k change cell left id words views held at pending =
      let k' : KeeperView = setting k cell in
      let next : one_fewer k.pending ≡ Some record { change = change; left = left } = ap one_fewer pending in
      let was : count_of k ≡ 2 * length k.history + 1 = ap (count_with k) pending in
      let same : count_of k' ≡ count_of k = setting_count k change cell left pending in
      at_seat k k' id words (set words (cell.place + 1) cell.word) views held at (λ r.
      keeper_moved Encodes size k k' words (set words (cell.place + 1) cell.word) views r
      (length-set k.cells cell.place cell.word ∙ r.long) (ap (λ (ws : List ℕ). set ws (cell.place + 1) cell.word) r.words_are
      ∙ set_word (count_of k) k.cells cell.place cell.word ∙ ap (λ (z : ℕ). z ∷ k'.cells) (sym same))
      (let e : Encodes (write k.cells (cell ∷ left)) (k.history ++ change ∷ []) =
      subst (λ (p : Option Pending). Encodes (write k.cells (left_of p)) (target_of k.history p)) pending r.encodes in
      subst (λ (p : Option Pending). Encodes (write k'.cells (left_of p)) (target_of k.history p)) (sym next) e)
      r.met_begins
      (odd_fits k k' refl same (omega arith)))
