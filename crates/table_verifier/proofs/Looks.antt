-- What one look-up finds, by what is read at the places of lists.
use Rattle.std.proofs.Common.{◌≡◌, ◌≢◌, ⊎_elim, ℕ, ◌+◌, ◌<◌, false, Some, slice_get, get_or, sym, ap, ◌∙◌, subst, arith, eq-eqb}
use Rattle.std.proofs.lemmas.Bool.{cases_Bool, cases_lt, eqb-true}
use Rattle.std.proofs.lemmas.Option.{get_or_from_slice_get}
use Rattle.tables.specs.Bounds.{InBounds}
use Rattle.tables.specs.Tables.{Table, cell_of, default_of, depth_of, look_ups, next_state, owns, state_count}
use Rattle.table_verifier.specs.Runs.{GoesOn}
use Rattle.table_verifier.specs.inner.LookUps.{IsLooked}
use Rattle.table_verifier.specs.declared.chains.Looked.TheVariants.{Next, Onward}
use Rattle.table_verifier.proofs.RunningLaws.{depth_low}

-- the cell of a state, and its owner
cell_is : (t : Table) (s b base : ℕ) → slice_get t.base s ≡ Some base → cell_of t s b ≡ base + b
cell_is t s b base at = ap (λ z. z + b) (get_or_from_slice_get t.base s base 0 at)

owner_is : (t : Table) (s b base owner : ℕ) → slice_get t.base s ≡ Some base → slice_get t.check (base + b) ≡ Some owner →
    get_or t.check (cell_of t s b) 0 ≡ owner
owner_is t s b base owner at owner_at =
    ap (λ z. get_or t.check z 0) (cell_is t s b base at) ∙ get_or_from_slice_get t.check (base + b) owner 0 owner_at

pub unowned_at : (t : Table) (s b base owner : ℕ) → slice_get t.base s ≡ Some base → slice_get t.check (base + b) ≡ Some owner →
    owner ≢ s → owns t s b ≡ false
unowned_at t s b base owner at owner_at other = ⊎_elim
    (λ is. absurd (other (sym (owner_is t s b base owner at owner_at) ∙ eqb-true _ _ is)))
    (λ no. no)
    (cases_Bool (owns t s b))

pub owned_at : (t : Table) (s b base owner : ℕ) → GoesOn t s b → slice_get t.base s ≡ Some base →
    slice_get t.check (base + b) ≡ Some owner → owner ≡ s → (next_state t s b ≡ slice_get t.next (base + b)) × (look_ups t s b ≡ 1)
owned_at t s b base owner on at owner_at own =
    let cell = on.cell (eq-eqb _ _ (owner_is t s b base owner at owner_at ∙ own)) in
    (cell.0 ∙ ap (slice_get t.next) (cell_is t s b base at), cell.1)

-- the cell is the state's
pub looked_cell : (t : Table) (s b base owner next : ℕ) → GoesOn t s b → slice_get t.base s ≡ Some base →
    slice_get t.check (base + b) ≡ Some owner → owner ≡ s → slice_get t.next (base + b) ≡ Some next → next < state_count t →
    IsLooked t s b (Next next)
looked_cell t s b base owner next on at owner_at own next_at there =
    let found = owned_at t s b base owner on at owner_at own in (found.0 ∙ next_at, found.1, there)

-- a state without a depth leads to its default
pub flat_default : (t : Table) (s b default depth : ℕ) → GoesOn t s b → owns t s b ≡ false →
    slice_get t.default s ≡ Some default → slice_get t.depth s ≡ Some depth → depth ≡ 0 →
    (next_state t s b ≡ Some default) × (look_ups t s b ≡ 1)
flat_default t s b default depth on other default_at depth_at none =
    let flat = on.flat other (get_or_from_slice_get t.depth s depth 0 depth_at ∙ none) in (flat.0 ∙ default_at, flat.1)

-- so does each state of a table whose bound is 0
pub unbound_default : (t : Table) (s b default : ℕ) → InBounds t → s < state_count t → GoesOn t s b → owns t s b ≡ false →
    slice_get t.default s ≡ Some default → t.depth_bound ≡ 0 → (next_state t s b ≡ Some default) × (look_ups t s b ≡ 1)
unbound_default t s b default bounds lt on other default_at none =
    let low = depth_low t bounds s lt in
    let flat = on.flat other (omega (arith, low, none)) in (flat.0 ∙ default_at, flat.1)

-- a state with a depth leads on from its default
pub onward_chain : (t : Table) (s b default depth : ℕ) → GoesOn t s b → owns t s b ≡ false →
    slice_get t.default s ≡ Some default → slice_get t.depth s ≡ Some depth → depth ≢ 0 →
    (next_state t s b ≡ next_state t default b) × (look_ups t s b ≡ look_ups t default b + 1) × (depth_of t default < depth_of t s)
onward_chain t s b default depth on other default_at depth_at deep =
    let default_is : default_of t s ≡ default = get_or_from_slice_get t.default s default 0 default_at in
    let depth_is : depth_of t s ≡ depth = get_or_from_slice_get t.depth s depth 0 depth_at in
    let some : 0 < depth_of t s = ⊎_elim (λ lt. lt) (λ le. absurd (deep (omega (arith, le, depth_is)))) (cases_lt 0 (depth_of t s)) in
    let ch = on.chain other some in (
      ch.0 ∙ ap (λ z. next_state t z b) default_is,
      ch.1 ∙ ap (λ z. look_ups t z b + 1) default_is,
      subst (λ z. depth_of t z < depth_of t s) default_is ch.2,
    )

pub looked_default : (t : Table) (s b base owner default depth : ℕ) → GoesOn t s b → slice_get t.base s ≡ Some base →
    slice_get t.check (base + b) ≡ Some owner → owner ≢ s → slice_get t.default s ≡ Some default →
    slice_get t.depth s ≡ Some depth → depth ≡ 0 → default < state_count t → IsLooked t s b (Next default)
looked_default t s b base owner default depth on at owner_at other default_at depth_at none there =
    let found = flat_default t s b default depth on (unowned_at t s b base owner at owner_at other) default_at depth_at none in
    (found.0, found.1, there)

pub looked_onward : (t : Table) (s b base owner default depth : ℕ) → GoesOn t s b → slice_get t.base s ≡ Some base →
    slice_get t.check (base + b) ≡ Some owner → owner ≢ s → slice_get t.default s ≡ Some default →
    slice_get t.depth s ≡ Some depth → depth ≢ 0 → default < state_count t → IsLooked t s b (Onward default)
looked_onward t s b base owner default depth on at owner_at other default_at depth_at deep there =
    let found = onward_chain t s b default depth on (unowned_at t s b base owner at owner_at other) default_at depth_at deep in
    (found.0, found.1, there, found.2)

-- a state that is its own default has no depth
pub stays_there : (t : Table) (s b : ℕ) → GoesOn t s b → slice_get t.default s ≡ Some s → owns t s b ≡ false →
    (next_state t s b ≡ Some s) × (look_ups t s b ≡ 1)
stays_there t s b on at other =
    let itself : default_of t s ≡ s = get_or_from_slice_get t.default s s 0 at in
    ⊎_elim
    (λ some. let falls = (on.chain other some).2 in let same = ap (depth_of t) itself in absurd (omega (arith, falls, same)))
    (λ le. let none : depth_of t s ≡ 0 = omega (arith, le) in let flat = on.flat other none in (flat.0 ∙ at, flat.1))
    (cases_lt 0 (depth_of t s))
