-- The invariant between the parts of a keeper, before and after each step.
use Rattle.std.proofs.Common.{◌≡◌, ◌≢◌, ℕ, suc, ◌+◌, ◌<◌, ◌≤◌, Bool, true, false, List, [], ◌∷◌, ◌++◌, length, drop, Some, None, Option}
use Rattle.std.proofs.Common.{sym, refl, ap, ◌∙◌, subst, arith, get_or, length-drop, drop-cons, true≢false}
use Rattle.std.proofs.lemmas.List.{drop_all}
use Rattle.std.proofs.lemmas.Bool.{lt-ltb, ltb-true}
use Rattle.std.specs.Prelude.{Vec, Ok, Err, IsOk, slice_set, nat_lt, if◌then◌else◌}
use Rattle.std.specs.List.{All}
use Rattle.std.specs.Option.{is_some}
use Rattle.std.specs.declared.alloc.Global.{Global}
use mathlib.Core.Logic.{inl, inr}
use Rattle.names.specs.declared.errors.Errno.{Errno}
use Rattle.names.specs.declared.errors.Errno.TheVariants.{ENOMEM, EOVERFLOW}
use Rattle.directory_tree.specs.declared.history.History.{History}
use Rattle.directory_tree.specs.declared.change.Change.{Change}
use Rattle.directory_tree.specs.declared.change.Change.TheVariants as change
use Rattle.directory_tree.specs.Tree.{Tree, root_alone}
use Rattle.directory_tree.specs.Apply.{Changed, apply, apply_counted, has_room, most_changes, tree_after}
use Rattle.names.specs.laws.Results.{err-ok, same_Ok}
use Rattle.std.proofs.lemmas.Option.{none-some}
use Rattle.tree_row.specs.laws.WorldsAfter.{world_after}
use Rattle.path_lookup.specs.World.{World}
use Rattle.directory_tree.specs.laws.OneMore.{after_more}
use Rattle.tree_row.specs.Worlds.{EncodesWorld}
use Rattle.tree_row.specs.OpeningRow.{opening_row}
use Rattle.tree_row.specs.laws.OpeningRow as opening_row_is
use Rattle.row_rule.specs.declared.cell.Cell.{Cell}
use Rattle.row_rule.specs.declared.view.KeeperView.{KeeperView}
use Rattle.row_rule.specs.declared.view.Pending.{Pending}
use Rattle.row_rule.specs.Row.{left_of}
use Rattle.row_rule.specs.Steps.{opening}
use Rattle.row_plan.specs.Plan.{Plannable, Plans, Refuses, next_after}
use Rattle.row_plan.proofs.NodeNumbers.{numbered}
use Rattle.row_keeper.specs.declared.open_change.OpenChange.{OpenChange}
use Rattle.row_keeper.specs.KeeperSteps.{MayPlan, IsOpened, Accepts, IsSet, IsClosed, MayClose, IsTested}
use Rattle.row_keeper.specs.inner.Kept.{last_from, last_of, pending_of, view_with, IsKept}
use Rattle.row_keeper.specs.inner.Planned.{IsPlanned}
use Rattle.row_keeper.proofs.Reasons.{never_memory}

-- the last of some changes with one appended
last_from_more : (first : Change) (changes : List Change) (change : Change) → last_from first (changes ++ change ∷ []) ≡ change
last_from_more first [] change = refl
last_from_more first (next ∷ rest) change = last_from_more next rest change

last_more : (changes : List Change) (change : Change) → last_of (changes ++ change ∷ []) ≡ change
last_more [] change = refl
last_more (first ∷ rest) change = last_from_more first rest change

-- the cells that are left, if there is a next one, and if there is none
from_next : (cells : List Cell) (n : ℕ) (cell : Cell) → n < length cells → cell ≡ get_or cells n cell →
    drop n cells ≡ cell ∷ drop (n + 1) cells
from_next cells n cell within is = drop-cons cells n cell within ∙ (λ i. sym is i ∷ drop (next n i) cells) where
  next : (n : ℕ) → suc n ≡ n + 1
  next n = omega arith

none_left : (cells : List Cell) (n : ℕ) → drop n cells ≡ [] → length cells ≤ n
none_left cells n h = let d = length-drop n cells in let e = ap length h in omega arith

-- Planning while no change is open: one more change is counted, or there are too many.
module _ (capacity : ℕ) (history : List Change) (t : Tree) (made : tree_after capacity history ≡ Ok t) (change : Change) where
  more : tree_after capacity (history ++ change ∷ []) ≡ apply_counted capacity (length history) t change
  more = after_more capacity 0 root_alone t history change (length history) (omega arith) made

  counted : length history < most_changes → tree_after capacity (history ++ change ∷ []) ≡ apply t (has_room capacity t) change
  counted few = more ∙ ap (λ (b : Bool). if b then apply t (has_room capacity t) change else Err EOVERFLOW)
      (lt-ltb (length history) most_changes few)

  too_many : length history ≡ most_changes → tree_after capacity (history ++ change ∷ []) ≡ Err EOVERFLOW
  too_many many = more ∙ ap (λ (n : ℕ). apply_counted capacity n t change) many

  -- a change that was accepted was counted
  accepted : (u : Tree) → tree_after capacity (history ++ change ∷ []) ≡ Ok u → (length history < most_changes)
      × (apply t (has_room capacity t) change ≡ Ok u)
  accepted u is =
      elim (nat_lt (length history) most_changes) as (λ (b : Bool). nat_lt (length history) most_changes ≡ b →
      (if b then apply t (has_room capacity t) change else Err EOVERFLOW) ≡ Ok u → (length history < most_changes)
      × (apply t (has_room capacity t) change ≡ Ok u)) [
        | true ↦ λ q h. (ltb-true (length history) most_changes q, h)
        | false ↦ λ q h. absurd (err-ok EOVERFLOW u h)
      ] refl (sym more ∙ is)

-- no change is open if the field says so, and if the view says so
pub is_none : (opened : Option OpenChange) → is_some opened ≡ false → opened ≡ None
is_none None h = refl
is_none (Some o) h = absurd (true≢false h)

none_open : (opened : Option OpenChange) (set : ℕ) → pending_of opened set ≡ None → opened ≡ None
none_open None set h = refl
none_open (Some o) set h = absurd (none-some _ (sym h))

pub kept_first : (capacity : ℕ) → IsKept capacity (opening_row capacity) 2 0 [] None 0
kept_first capacity = record {
  tree = root_alone;
  made = refl;
  encodes = opening_row_is.opens capacity;
  next_is = refl;
  next_low = omega arith;
  version_is = refl;
  few = omega arith;
  is_open = tt;
}

-- a change numbers at most one node
low_after : (next version : ℕ) (change : Change) → next ≤ version + 0 + 2 → next_after next change ≤ version + 1 + 2
low_after next version (change.Mkdir path) h = omega arith
low_after next version (change.Create path) h = omega arith
low_after next version (change.Symlink text path) h = omega arith
low_after next version (change.Link old new) h = omega arith
low_after next version (change.Unlink path) h = omega arith
low_after next version (change.Rmdir path) h = omega arith
low_after next version (change.Rename old new) h = omega arith

-- a keeper at rest
module _ (capacity : ℕ) (cells : List ℕ) (next version : ℕ) (history : List Change) (set : ℕ)
    (k : IsKept capacity cells next version history None set) (change : Change) where
  abbrev world : World
  world = world_after capacity history cells k.tree k.made

  stands : EncodesWorld capacity cells world
  stands = record { tree = k.encodes; named = λ s. refl }

  rest_plannable : Plannable capacity (λ (row : List ℕ). row ≡ cells) next
  rest_plannable = (cells, world, refl, stands, sym k.next_is)

  rest_planned : (plan : List Cell) → version ≢ most_changes
      → ((row : List ℕ) (w : World) → row ≡ cells → EncodesWorld capacity row w → w.tree.next ≡ next → Plans capacity row w change plan)
      → MayPlan capacity (view_with cells history None set) change plan
  rest_planned plan not_last plans =
      let p = plans cells world refl stands (sym k.next_is) in
      let few : length history < most_changes = omega (arith, k.few, k.version_is, not_last) in
      (refl, (world, k.made, stands, p), (p.after, counted capacity history k.tree k.made change few ∙ p.made, p.encodes))

  rest_refused : (errno : Errno) → version ≢ most_changes → errno ≢ ENOMEM
      → ((row : List ℕ) (w : World) → row ≡ cells → EncodesWorld capacity row w → Refuses capacity w change errno)
      → tree_after capacity (history ++ change ∷ []) ≡ Err errno
  rest_refused errno not_last other refuses =
      let few : length history < most_changes = omega (arith, k.few, k.version_is, not_last) in
      elim (refuses cells world refl stands) [
        | inl (memory, good) ↦ absurd (other memory)
        | inr is ↦ counted capacity history k.tree k.made change few ∙ is
      ]

  rest_accepts : version ≢ most_changes
      → ((row : List ℕ) (w : World) → row ≡ cells → EncodesWorld capacity row w → Refuses capacity w change ENOMEM)
      → IsOk (tree_after capacity (history ++ change ∷ []))
  rest_accepts not_last refuses =
      let few : length history < most_changes = omega (arith, k.few, k.version_is, not_last) in
      elim (refuses cells world refl stands) [
        | inl (memory, good) ↦ subst (λ (c : Changed). IsOk c) (sym (counted capacity history k.tree k.made change few)) good
        | inr is ↦ absurd (never_memory k.tree (has_room capacity k.tree) change is)
      ]

  rest_full : version ≡ most_changes → tree_after capacity (history ++ change ∷ []) ≡ Err EOVERFLOW
  rest_full last = too_many capacity history k.tree k.made change (sym k.version_is ∙ last)

  rest_opened : (plan : Vec Cell Global) (target : History Change)
      → MayPlan capacity (view_with cells history None set) change plan.items → target.events ≡ history ++ change ∷ []
      → IsKept capacity cells (next_after next change) version history (Some record { plan = plan; target = target }) 0
  rest_opened plan target (shut, (w, stood, named, plans), (u, made, encodes)) is =
      let (few, applied) = accepted capacity history k.tree k.made change u made in
      let last : last_of target.events ≡ change = ap last_of is ∙ last_more history change in
      record {
        tree = u;
        made = ap (λ (c : Change). tree_after capacity (history ++ c ∷ [])) last ∙ made;
        encodes = encodes;
        next_is = ap (λ (n : ℕ). next_after n change) k.next_is ∙ sym (numbered k.tree u (has_room capacity k.tree) change applied);
        next_low = low_after next version change k.next_low;
        version_is = k.version_is;
        few = omega (arith, k.version_is, few);
        is_open = (
          is ∙ ap (λ (c : Change). history ++ c ∷ []) (sym last),
          omega arith,
          subst
              (λ (n : ℕ). All (λ (cell : Cell). cell.place < n) plan.items) k.encodes.long plans.lean.within,
        );
      }

-- the same, for a value that is the view of a keeper's parts
module _ (capacity : ℕ) (cells : List ℕ) (next version : ℕ) (history : List Change) (opened : Option OpenChange) (set : ℕ)
    (value : ℕ × KeeperView)
    (kept : IsKept capacity cells next version history opened set)
    (is : (let v : ℕ × KeeperView = (capacity, view_with cells history opened set) in v) ≡ value) where
  module _ (none : opened ≡ None) where
    kept_rest : IsKept capacity cells next version history None set
    kept_rest = subst (λ (o : Option OpenChange). IsKept capacity cells next version history o set) none kept

    is_rest : (let v : ℕ × KeeperView = (capacity, view_with cells history None set) in v) ≡ value
    is_rest = subst (λ (o : Option OpenChange). (let v : ℕ × KeeperView = (capacity, view_with cells history o set) in v) ≡ value) none is

    pub plannable : Change → Plannable capacity (λ (row : List ℕ). row ≡ cells) next
    plannable change = rest_plannable capacity cells next version history set kept_rest change

    pub full : (change : Change) → version ≡ most_changes → IsPlanned value.0 value.1 change (Err EOVERFLOW)
    full change last = subst (λ (v : ℕ × KeeperView). IsPlanned v.0 v.1 change (Err EOVERFLOW)) is_rest
        (refl, rest_full capacity cells next version history set kept_rest change last)

    pub planned : (change : Change) (plan : Vec Cell Global) → version ≢ most_changes
        → ((row : List ℕ) (w : World) → row ≡ cells → EncodesWorld capacity row w → w.tree.next ≡ next →
        Plans capacity row w change plan.items)
        → IsPlanned value.0 value.1 change (Ok plan)
    planned change plan not_last plans =
        subst (λ (v : ℕ × KeeperView). IsPlanned v.0 v.1 change (Ok plan)) is_rest
        (rest_planned capacity cells next version history set kept_rest change plan.items not_last plans)

    pub refused : (change : Change) (errno : Errno) → version ≢ most_changes → errno ≢ ENOMEM
        → ((row : List ℕ) (w : World) → row ≡ cells → EncodesWorld capacity row w → Refuses capacity w change errno)
        → IsPlanned value.0 value.1 change (Err errno)
    refused change errno not_last other refuses =
        subst (λ (v : ℕ × KeeperView). IsPlanned v.0 v.1 change (Err errno)) is_rest
        (refl, rest_refused capacity cells next version history set kept_rest change errno not_last other refuses)

    pub accepts : (change : Change) → version ≢ most_changes
        → ((row : List ℕ) (w : World) → row ≡ cells → EncodesWorld capacity row w → Refuses capacity w change ENOMEM)
        → Accepts value.0 value.1 change
    accepts change not_last refuses =
        subst (λ (v : ℕ × KeeperView). Accepts v.0 v.1 change) is_rest
        (refl, rest_accepts capacity cells next version history set kept_rest change not_last refuses)

  module _ (change : Change) (plan : Vec Cell Global) (may : MayPlan value.0 value.1 change plan.items) (target : History Change)
      (target_is : target.events ≡ history ++ change ∷ []) where
    may_here : MayPlan capacity (view_with cells history opened set) change plan.items
    may_here = subst (λ (v : ℕ × KeeperView). MayPlan v.0 v.1 change plan.items) (sym is) may

    none_here : opened ≡ None
    none_here = none_open opened set may_here.0

    pub kept_opened : IsKept capacity cells (next_after next change) version history (Some record { plan = plan; target = target }) 0
    kept_opened =
        rest_opened capacity cells next version history set (kept_rest none_here) change plan target
        (subst (λ (o : Option OpenChange). MayPlan capacity (view_with cells history o set) change plan.items) none_here may_here)
        target_is

    pub view_opened : IsOpened value.0 value.1 change (view_with cells history (Some record { plan = plan; target = target }) 0)
    view_opened = (
      plan.items,
      may,
      ap (λ (c : Change). view_of c) (ap last_of target_is ∙ last_more history change)
          ∙ ap (λ (v : ℕ × KeeperView). opening v.1 change plan.items) (is_rest none_here),
    ) where
      view_of : Change → KeeperView
      view_of c = record { history = history; cells = cells; pending = Some record { change = c; left = plan.items }; met = [] }

-- All plans of a change are equally long.
pub tested : (law : (capacity : ℕ) (row : List ℕ) (w v : World) (change : Change) (plan other : List Cell) → EncodesWorld capacity row w →
    EncodesWorld capacity row v → w.tree ≡ v.tree
    → Plans capacity row w change plan → Plans capacity row v change other → length plan ≡ length other)
    → (capacity : ℕ) (old : KeeperView) (change : Change) (plan : List Cell) → MayPlan capacity old change plan →
    IsTested capacity old change (Ok (length plan))
tested law capacity old change plan may =
    let (shut, (w, made, stands, plans), encodes) = may in (
      (opening old change plan, (plan, may, refl)),
      λ new (other, (shut', (v, made', stands', plans'), encodes'), is).
          ap (λ (k : KeeperView). length (left_of k.pending)) is ∙ law capacity old.cells v w change other plan stands' stands
          (same_Ok v.tree w.tree (sym made' ∙ made)) plans' plans,
    )

-- a cell is set
pub view_set : (cells : List ℕ) (history : List Change) (opened : Option OpenChange) (o : OpenChange) (set : ℕ) (cell : Cell)
    (k : KeeperView) → opened ≡ Some o → set < length o.plan.items → cell ≡ get_or o.plan.items set cell →
    view_with cells history opened set ≡ k
    → IsSet k (view_with (slice_set cells cell.place cell.word) history opened (set + 1))
view_set cells history opened o set cell k is within next value =
    let change = last_of o.target.events in
    let left = from_next o.plan.items set cell within next in
    let at_one : IsSet (view_with cells history (Some o) set) (view_with (slice_set cells cell.place cell.word) history
    (Some o) (set + 1)) = (
      change,
      cell,
      drop (set + 1) o.plan.items,
      ap (λ (cs : List Cell). Some record { change = change; left = cs }) left,
      ap (λ (cs : List Cell). view_of change cs) (ap (λ (cs : List Cell). drop 1 cs) (sym left)),
    ) in
    subst (λ (v : KeeperView). IsSet v (view_with (slice_set cells cell.place cell.word) history opened (set + 1))) value
    (subst (λ (p : Option OpenChange). IsSet (view_with cells history p set) (view_with (slice_set cells cell.place cell.word) history p
    (set + 1))) (sym is) at_one)
  where
    view_of : Change → List Cell → KeeperView
    view_of c cs = record {
      history = history;
      cells = slice_set cells cell.place cell.word;
      pending =
          Some record { change = c; left = cs };
      met = [];
    }

-- the change is closed exactly if no cell is left
pub view_closed : (capacity : ℕ) (cells : List ℕ) (next version : ℕ) (history : List Change) (opened : Option OpenChange) (o : OpenChange)
    (set after : ℕ) (k : KeeperView) (target : List Change) → opened ≡ Some o → length o.plan.items ≤ set → target ≡ o.target.events
    → IsKept capacity cells next version history opened set → view_with cells history opened set ≡ k →
    IsClosed k (view_with cells target None after)
view_closed capacity cells next version history opened o set after k target is all target_is kept value =
    let change = last_of o.target.events in
    let here : IsKept capacity cells next version history (Some o) set =
    subst (λ (p : Option OpenChange). IsKept capacity cells next version history p set) is kept in
    let at_one : IsClosed (view_with cells history (Some o) set) (view_with cells target None after) = (
      change,
      ap (λ (cs : List Cell). Some record { change = change; left = cs }) (drop_all set o.plan.items all),
      ap view_of (target_is ∙ here.is_open.0),
    ) in
    subst (λ (v : KeeperView). IsClosed v (view_with cells target None after)) value
    (subst (λ (p : Option OpenChange). IsClosed (view_with cells history p set) (view_with cells target None after)) (sym is) at_one)
  where
    view_of : List Change → KeeperView
    view_of events = record { history = events; cells = cells; pending = None; met = [] }

pub not_closed : (cells : List ℕ) (history : List Change) (opened : Option OpenChange) (o : OpenChange) (set : ℕ) (k : KeeperView) →
    opened ≡ Some o → set < length o.plan.items → view_with cells history opened set ≡ k → ¬ (MayClose k)
not_closed cells history opened o set k is some_left value (new, (change, none_left_is, closed)) =
    let here : pending_of (Some o) set ≡ Some record { change = change; left = [] } =
    subst (λ (p : Option OpenChange). pending_of p set ≡ Some record { change = change; left = [] }) is
    (ap (λ (v : KeeperView). v.pending) value ∙ none_left_is) in
    let low = none_left o.plan.items set (ap (λ (p : Option Pending). left_of p) here) in
    absurd (omega arith)
