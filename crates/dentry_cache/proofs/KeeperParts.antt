-- What the parts of a keeper have in common, before and after a change.
use Rattle.std.proofs.Common.{None, ◌≡◌, ◌≢◌, ℕ, ◌+◌, ◌<◌, ◌≤◌, Bool, true, false, List, [], ◌∷◌, ◌++◌, length, sym, refl, ap, ◌∙◌, subst}
use Rattle.std.proofs.Common.{arith, length-append, ◌*◌}
use Rattle.std.proofs.lemmas.Bool.{lt-ltb, ltb-true}
use Rattle.std.specs.List.{All}
use Rattle.std.specs.Prelude.{Ok, Err, nat_lt, if◌then◌else◌, IsOk}
use mathlib.Core.Logic.{inl, inr}
use Rattle.atomic_table.specs.Seated.{TableId}
use Rattle.names.specs.declared.errors.Errno.{Errno}
use Rattle.names.specs.declared.errors.Errno.TheVariants.{EOVERFLOW}
use Rattle.directory_tree.specs.declared.change.Change.{Change}
use Rattle.directory_tree.specs.declared.change.Change.TheVariants as change
use Rattle.directory_tree.specs.Tree.{Tree, root_alone}
use Rattle.directory_tree.specs.Apply.{Changed, apply, apply_counted, has_room, most_changes, tree_after}
use Rattle.names.specs.laws.Results.{err-ok, same_Ok}
use Rattle.tree_row.specs.laws.WorldsAfter.{world_after}
use Rattle.path_lookup.specs.World.{World}
use Rattle.directory_tree.specs.laws.OneMore.{after_more}
use Rattle.tree_row.specs.Rows.{Encodes, row_length}
use Rattle.tree_row.specs.Worlds.{EncodesWorld, SeesBy}
use Rattle.tree_row.specs.OpeningRow.{opening_row}
use Rattle.tree_row.specs.laws.OpeningRow as opening_row_is
use Rattle.tree_row.specs.laws.OneTree.{same_tree}
use Rattle.row_rule.specs.declared.cell.Cell.{Cell}
use Rattle.row_rule.specs.declared.view.KeeperView.{KeeperView}
use Rattle.row_rule.specs.Row.{write, count_of, pending_count}
use Rattle.row_plan.specs.Plan.{Plannable, Plans, next_after, outcome_in}
use Rattle.row_plan.specs.Plan as plan_of
use Rattle.row_plan.specs.Changes.{IsPlan}
use Rattle.dentry_cache.specs.Seats.{keeper_of, IsKeeping}
use Rattle.dentry_cache.specs.Models.{Held, Accepts, Refuses, Hinders, SeesHistory}
use Rattle.dentry_cache.specs.inner.Knowledge.{RowSeat, held, IsKept, KeeperKnows, Countable, IsPlanned}

-- One more change is counted, or there are too many.
module _ (capacity : ℕ) (history : List Change) (t : Tree) (made : tree_after capacity history ≡ Ok t) (change : Change) where
  more : tree_after capacity (history ++ change ∷ []) ≡ apply_counted capacity (length history) t change
  more = after_more capacity 0 root_alone t history change (length history) (omega arith) made

  counted : length history < most_changes → tree_after capacity (history ++ change ∷ []) ≡ apply t (has_room capacity t) change
  counted few = more ∙ ap (λ (b : Bool). if b then apply t (has_room capacity t) change else Err EOVERFLOW)
      (lt-ltb (length history) most_changes few)

  too_many : length history ≡ most_changes → tree_after capacity (history ++ change ∷ []) ≡ Err EOVERFLOW
  too_many many = more ∙ ap (λ (n : ℕ). apply_counted capacity n t change) many

  -- a change that was accepted was counted
  few_were : (u : Tree) → tree_after capacity (history ++ change ∷ []) ≡ Ok u → length history < most_changes
  few_were u is =
      elim (nat_lt (length history) most_changes) as (λ (b : Bool). nat_lt (length history) most_changes ≡ b →
      (if b then apply t (has_room capacity t) change else Err EOVERFLOW) ≡ Ok u → length history < most_changes) [
        | true ↦ λ q h. ltb-true (length history) most_changes q
        | false ↦ λ q h. absurd (err-ok EOVERFLOW u h)
      ] refl (sym more ∙ is)

-- a change numbers at most one node
low_after : (next version : ℕ) (change : Change) → next ≤ version + 2 → next_after next change ≤ version + 1 + 2
low_after next version (change.Mkdir path) h = omega arith
low_after next version (change.Create path) h = omega arith
low_after next version (change.Symlink text path) h = omega arith
low_after next version (change.Link old new) h = omega arith
low_after next version (change.Unlink path) h = omega arith
low_after next version (change.Rmdir path) h = omega arith
low_after next version (change.Rename old new) h = omega arith

pub kept_first : (h : Held) → h.history ≡ [] → h.cells ≡ opening_row h.capacity → IsKept h 2 0
kept_first h none first = record {
  tree = root_alone;
  made = ap (tree_after h.capacity) none;
  encodes = subst (λ (row : List ℕ). Encodes h.capacity row root_alone) (sym first) (opening_row_is.opens h.capacity);
  next_is = refl;
  next_low = omega arith;
  version_is = ap length (sym none);
  few = omega arith;
}

-- one more change can be counted, except after the last
pub countable : (h : Held) (next version : ℕ) → IsKept h next version → version ≢ most_changes → Countable h next
countable h next version k not_last = record {
  world = world_after h.capacity h.history h.cells k.tree k.made;
  made = k.made;
  stands = record { tree = k.encodes; named = λ s. refl };
  next_is = sym k.next_is;
  few = omega (arith, k.few, k.version_is, not_last);
}

pub full : (h : Held) (next version : ℕ) → IsKept h next version → version ≡ most_changes → (change : Change) → Refuses h change EOVERFLOW
full h next version k last change = too_many h.capacity h.history k.tree k.made change (sym k.version_is ∙ last)

-- the tree is seen, and no other
pub sees_history : (h : Held) (next version : ℕ) → IsKept h next version → SeesHistory h
sees_history h next version k = record {
  world = world_after h.capacity h.history h.cells k.tree k.made;
  made = k.made;
  seen = (h.cells, refl, record { tree = k.encodes; named = λ s. refl });
  only = λ w (row, is, encodes). same_tree h.capacity h.cells k.tree w.tree k.encodes
      (subst (λ (r : List ℕ). Encodes h.capacity r w.tree) is encodes.tree);
}

-- what is known about the tree that the cells encode, while changes are counted
module _ (h : Held) (next : ℕ) (n : Countable h next) where
  pub plannable : Plannable h.capacity (λ (row : List ℕ). row ≡ h.cells) next
  plannable = (h.cells, n.world, refl, n.stands, n.next_is)

  pub sees_world : SeesBy h.capacity (λ (row : List ℕ). row ≡ h.cells) n.world
  sees_world = (h.cells, refl, n.stands)

  module _ (change : Change) where
    pub planned : (plan : List Cell)
        → ((row : List ℕ) (w : World) → row ≡ h.cells → EncodesWorld h.capacity row w → w.tree.next ≡ next →
        Plans h.capacity row w change plan)
        → IsPlanned h change plan
    planned plan plans =
        let p = plans h.cells n.world refl n.stands n.next_is in
        ((n.world, n.made, n.stands, p), (p.after, counted h.capacity h.history n.world.tree n.made change n.few ∙ p.made, p.encodes))

    pub refused : (errno : Errno) → outcome_in h.capacity n.world change ≡ Err errno → Refuses h change errno
    refused errno is = counted h.capacity h.history n.world.tree n.made change n.few ∙ is

    pub accepted : IsOk (outcome_in h.capacity n.world change) → Accepts h change
    accepted is = subst (λ (r : Changed). IsOk r) (sym (counted h.capacity h.history n.world.tree n.made change n.few)) is

    pub accepted_by : (u : Tree) → outcome_in h.capacity n.world change ≡ Ok u → Accepts h change
    accepted_by u is = accepted (subst (λ (r : Changed). IsOk r) (sym is) refl)

    pub hindered : (errno : Errno)
        → ((row : List ℕ) (w : World) → row ≡ h.cells → EncodesWorld h.capacity row w → plan_of.Refuses h.capacity w change errno)
        → Hinders h change errno
    hindered errno refuses = elim (refuses h.cells n.world refl n.stands) [
      | inl (memory, good) ↦ inr (memory, accepted good)
      | inr is ↦ inl (refused errno is)
    ]

-- the parts after a change was made
pub kept_next : (h : Held) (next version : ℕ) (change : Change) (plan : List Cell) (h' : Held) → IsKept h next version →
    IsPlanned h change plan → h'.capacity ≡ h.capacity → h'.history ≡ h.history ++ change ∷ [] → h'.cells ≡ write h.cells plan
    → IsKept h' (next_after next change) (version + 1)
kept_next h next version change plan h' k ((w, stood, named, plans), (u, made, encodes)) capacity history cells =
    let few = few_were h.capacity h.history k.tree k.made change u made in
    let same : w.tree ≡ k.tree = same_Ok w.tree k.tree (sym stood ∙ k.made) in
    record {
      tree = plans.after;
      made = (λ i. tree_after (capacity i) (history i)) ∙ (counted h.capacity h.history w.tree stood change few ∙ plans.made);
      encodes = subst (λ (z : ℕ × List ℕ). Encodes z.0 z.1 plans.after) (λ i. (sym capacity i, sym cells i)) plans.encodes;
      next_is = ap (λ (n : ℕ). next_after n change) k.next_is ∙ (ap (λ (t : Tree). next_after t.next change) (sym same) ∙ sym plans.next);
      next_low = low_after next version change k.next_low;
      version_is = ap (λ (n : ℕ). n + 1) k.version_is ∙ (sym (length-append h.history (change ∷ [])) ∙ ap length (sym history));
      few = omega (arith, k.version_is, few);
    }

-- the cells of a plan are the row's
pub within : (capacity : ℕ) (cells : List ℕ) (history : List Change) (change : Change) (plan : List Cell) →
    IsPlan capacity cells history change plan → All (λ (cell : Cell). cell.place < row_length capacity) plan
within capacity cells history change plan (w, made, stands, plans) = subst (λ (n : ℕ). All (λ (cell : Cell). cell.place < n) plan)
    stands.tree.long plans.lean.within

-- a keeper's parts, where they make up this value
pub kept_of : (table : TableId) (key : ℕ) (seat : RowSeat) (capacity next version : ℕ) (h : Held) →
    KeeperKnows table key seat capacity next version → held seat capacity ≡ h → IsKept h next version
kept_of table key seat capacity next version h knows is = subst (λ (x : Held). IsKept x next version) is knows.kept

pub knows_next : (table : TableId) (key : ℕ) (seat : RowSeat) (capacity next version : ℕ) (h : Held) (change : Change) (plan : List Cell)
    (seat' : RowSeat) (next' : ℕ)
    → KeeperKnows table key seat capacity next version → held seat capacity ≡ h → IsPlanned h change plan → seat'.table_id
    ≡ seat.table_id → IsKeeping seat'.me → (keeper_of seat'.me.0).pending ≡ None
    → (keeper_of seat'.me.0).history ≡ (keeper_of seat.me.0).history ++ change ∷ [] → (keeper_of seat'.me.0).cells
    ≡ write (keeper_of seat.me.0).cells plan → next' ≡ next_after next change
    → KeeperKnows table key seat' capacity next' (version + 1)
knows_next table key seat capacity next version h change plan seat' next' knows is planned own role shut history cells next_is = record {
  own = own ∙ knows.own;
  at = knows.at;
  role = role;
  shut = shut;
  kept = subst (λ (n : ℕ). IsKept (held seat' capacity) n (version + 1)) (sym next_is)
      (kept_next h next version change plan (held seat' capacity) (kept_of table key seat capacity next version h knows is) planned
      (ap (λ (x : Held). x.capacity) is) (history ∙ ap (λ (x : Held). x.history ++ change ∷ []) is)
      (cells ∙ ap (λ (x : Held). write x.cells plan) is));
}

-- the count of a keeper at rest
at_rest_count : (k : KeeperView) → k.pending ≡ None → count_of k ≡ 2 * length k.history
at_rest_count k shut = let none = ap pending_count shut in omega (arith, none)

pub count_of_version : (table : TableId) (key : ℕ) (seat : RowSeat) (capacity next version : ℕ) (h : Held) →
    KeeperKnows table key seat capacity next version → held seat capacity ≡ h → h.count ≡ 2 * version
count_of_version table key seat capacity next version h knows is =
    ap (λ (x : Held). x.count) (sym is) ∙ (at_rest_count (keeper_of seat.me.0) knows.shut ∙ ap (λ (n : ℕ). 2 * n)
    (sym knows.kept.version_is))

pub count_next : (k k' : KeeperView) (change : Change) → k.pending ≡ None → k'.pending ≡ None → k'.history ≡ k.history ++ change ∷ [] →
    count_of k' ≡ count_of k + 2
count_next k k' change shut shut' more =
    let a = at_rest_count k shut in
    let b = at_rest_count k' shut' in
    let c = ap length more ∙ length-append k.history (change ∷ []) in
    omega (arith, a, b, c)
