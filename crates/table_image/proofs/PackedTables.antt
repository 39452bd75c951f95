-- The table of an automaton, once each state is packed.
use Rattle.std.proofs.Common.{◌≡◌, inl, inr, ⊎_elim, ℕ, ◌<◌, ◌≤◌, Bool, true, false, true≢false, List, length}
use Rattle.std.proofs.Common.{Some, slice_get, slice_index_or, if◌then◌else◌, sym, ap, ◌∙◌, arith}
use Rattle.std.specs.Option.{option_and_then}
use Rattle.std.proofs.lemmas.Bool.{eqb-true}
use Rattle.std.proofs.lemmas.Bool.Decides.{eqb_tells}
use Rattle.std.proofs.lemmas.Option.{slice_get-get_or, slice_get_within, get_or_from_slice_get}
use Rattle.automaton_rows.specs.Automata.{Automaton, target}
use Rattle.tables.specs.Bounds.{InBounds, IsTooDeep}
use Rattle.tables.specs.Tables.{Table, cell_of, default_of, depth_of, owns, record_of}
use Rattle.table_image.specs.Chains.{source, IsChained, IsOnward}
use Rattle.table_image.specs.declared.taken.Taken.{Taken}
use Rattle.table_image.specs.inner.PackSteps.{IsPacked, without_cell}

read_at : (list : List ℕ) (i n : ℕ) → slice_get list i ≡ Some n → (i < length list) × (slice_index_or list i 0 ≡ n)
read_at list i n at = (slice_get_within list i n at, get_or_from_slice_get list i n 0 at)

-- what a state does without a cell, by whether it has a depth
onward_is : (a : Automaton) (t : Table) (s b : ℕ) → without_cell a (default_of t s) (depth_of t s) b ≡ target a (source a s) b →
    IsOnward a t s b
onward_is a t s b leads = ⊎_elim
    (λ flat. inl (flat.1, ap leading (sym flat.0) ∙ leads))
    (λ deep. inr (omega (arith, deep.1), ap leading (sym deep.0) ∙ leads))
    (eqb_tells (depth_of t s) 0)
  where
    leading : Bool → ℕ
    leading flat = if flat then default_of t s else target a (source a (default_of t s)) b

module _ (a : Automaton) (t : Table) (taken : Taken) (states : ℕ) (two : 2 ≤ states) (all : length a.rows ≤ states)
    (few : states ≤ 16384) (packed : IsPacked a t taken states) where
  depth_right : (s d : ℕ) → slice_get t.depth s ≡ Some d → ¬ (IsTooDeep t s d)
  depth_right s d at deep =
      let read = read_at t.depth s d at in
      let lt : s < states = omega (arith, read.0, packed.depths_long) in
      ⊎_elim
      (λ over. omega (arith, over, read.1, packed.depth s lt))
      (λ h.
      let next : default_of t s ≡ h.1 = (read_at t.default s h.1 h.2).1 in
      let below : depth_of t (default_of t s) ≡ h.3 = ap (depth_of t) next ∙ (read_at t.depth h.1 h.3 h.4).1 in
      ⊎_elim
      (λ flat. omega (arith, flat, read.1, h.0))
      (λ chain. omega (arith, chain.1, below, read.1, h.5))
      (packed.chain s lt))
      deep

  bounds : InBounds t
  bounds = record {
    limits = record {
      two_states = omega (arith, two, packed.defaults_long);
      states_fit = omega (arith, few, packed.defaults_long);
      one_row = packed.one_row (omega (arith, two));
      cells_fit = omega (arith, few, packed.few_cells);
      one_record = let one = packed.accept 0 (omega (arith, two)) in omega (arith, one);
      records_fit = omega (arith, few, packed.few_records);
    };
    shaped = record {
      bases = packed.bases_long ∙ sym packed.defaults_long;
      accepts = packed.accepts_long ∙ sym packed.defaults_long;
      checks = packed.checks_long;
      depths = packed.depths_long ∙ sym packed.defaults_long;
    };
    defaults = λ s n at.
        let read = read_at t.default s n at in
        omega (arith, read.1, packed.default s (omega (arith, read.0, packed.defaults_long)), all, packed.defaults_long);
    bases = λ s n at.
        let read = read_at t.base s n at in
        omega (arith, read.1, packed.base s (omega (arith, read.0, packed.bases_long)));
    accepts = λ s n at.
        let read = read_at t.accept s n at in
        omega (arith, read.1, packed.accept s (omega (arith, read.0, packed.accepts_long)));
    nexts = λ c n at.
        let read = read_at t.next c n at in
        omega (arith, read.1, packed.next c read.0, all, packed.defaults_long);
    depths = depth_right;
  }

  owned_is : (s b : ℕ) → s < states → b < 256 → owns t s b ≡ true → slice_get t.next (cell_of t s b) ≡ Some (target a (source a s) b)
  owned_is s b lt small own =
      let room = packed.base s lt in
      slice_get-get_or t.next (cell_of t s b) 0 (omega (arith, room, small))
      ∙ ap Some (packed.owned s b lt small (eqb-true (slice_index_or t.check (cell_of t s b) 0) s own))

  unowned_is : (s b : ℕ) → s < states → b < 256 → owns t s b ≡ false → IsOnward a t s b
  unowned_is s b lt small other = onward_is a t s b (packed.unowned s b lt small (λ own. ⊎_elim
      (λ h. true≢false (sym h.0 ∙ other))
      (λ h. h.1 own)
      (eqb_tells (slice_index_or t.check (cell_of t s b) 0) s)))

  record_is : (s : ℕ) → s < states → record_of t s ≡ slice_get a.records (source a s)
  record_is s lt =
      ap (option_and_then (slice_get t.records)) (slice_get-get_or t.accept s 0 (omega (arith, lt, packed.accepts_long)))
      ∙ packed.record_at s lt

  pub all_chained : IsChained a t
  all_chained = record {
    bounds = bounds;
    all = omega (arith, all, packed.defaults_long);
    owned = λ s b lt. owned_is s b (omega (arith, lt, packed.defaults_long));
    onward = λ s b lt. unowned_is s b (omega (arith, lt, packed.defaults_long));
    recorded = λ s lt. record_is s (omega (arith, lt, packed.defaults_long));
  }
