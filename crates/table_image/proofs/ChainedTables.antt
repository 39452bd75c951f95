-- A table with chains leads where its automaton does.
use Rattle.std.proofs.Common.{◌≡◌, inl, inr, ⊎_elim, ℕ, ◌<◌, ◌≤◌, ◌==◌, Bool, true, false, List, [], ◌∷◌, length, Option, Some, zero}
use Rattle.std.proofs.Common.{suc, slice_get, slice_index_or, if◌then◌else◌, refl, ap, ◌∙◌, arith}
use Rattle.std.specs.Option.{option_and_then}
use Rattle.std.proofs.lemmas.Bool.{cases_lt}
use Rattle.std.proofs.lemmas.Bool.Decides.{eqb_tells}
use Rattle.std.proofs.lemmas.Option.{slice_get-get_or}
use Rattle.automaton_rows.specs.Automata.{Automaton, IsWhole, target, goes_to}
use Rattle.names.specs.Bytes.{are_bytes}
use Rattle.table_image.specs.Chains.{source, IsChained}
use Rattle.table_image.specs.PackedTables.{IsTableOf}
use Rattle.tables.specs.Tables.{Table, cell_of, default_of, depth_of, next_state, next_within, owns, record_of, state_count, state_from}

pub source_there : (a : Automaton) (s : ℕ) → IsWhole a → source a s < length a.rows
source_there a s whole = let there = whole.start_there in omega (arith, there)

pub not_zero : (d : ℕ) → 0 < d → (d == 0) ≡ false
not_zero d some = ⊎_elim (λ h. absurd (omega (arith, h.1, some))) (λ h. h.0) (eqb_tells d 0)

module _ (a : Automaton) (t : Table) (whole : IsWhole a) (chained : IsChained a t) where
  base_at : (s : ℕ) → s < state_count t → slice_get t.base s ≡ Some (slice_index_or t.base s 0)
  base_at s lt = slice_get-get_or t.base s 0 (omega (arith, lt, chained.bounds.shaped.bases))

  default_at : (s : ℕ) → s < state_count t → slice_get t.default s ≡ Some (default_of t s)
  default_at s lt = slice_get-get_or t.default s 0 lt

  depth_at : (s : ℕ) → s < state_count t → slice_get t.depth s ≡ Some (depth_of t s)
  depth_at s lt = slice_get-get_or t.depth s 0 (omega (arith, lt, chained.bounds.shaped.depths))

  owner_at : (s b : ℕ) → s < state_count t → b < 256 → slice_get t.check (cell_of t s b) ≡ Some (slice_index_or t.check (cell_of t s b) 0)
  owner_at s b lt small =
      let room = chained.bounds.bases s (slice_index_or t.base s 0) (base_at s lt) in
      slice_get-get_or t.check (cell_of t s b) 0 (omega (arith, room, small, chained.bounds.shaped.checks))

  default_low : (s : ℕ) → s < state_count t → default_of t s < state_count t
  default_low s lt = chained.bounds.defaults s (default_of t s) (default_at s lt)

  depth_low : (s : ℕ) → s < state_count t → depth_of t s ≤ t.depth_bound
  depth_low s lt = ⊎_elim
      (λ over. absurd (chained.bounds.depths s (depth_of t s) (depth_at s lt) (inl over)))
      (λ le. le)
      (cases_lt t.depth_bound (depth_of t s))

  -- a chain falls
  falls : (s : ℕ) → s < state_count t → 0 < depth_of t s → depth_of t (default_of t s) < depth_of t s
  falls s lt some = ⊎_elim
      (λ below. below)
      (λ le.
      let next = default_of t s in
      absurd (chained.bounds.depths s (depth_of t s) (depth_at s lt)
      (inr (some, next, default_at s lt, depth_of t next, depth_at next (default_low s lt), le))))
      (cases_lt (depth_of t (default_of t s)) (depth_of t s))

  -- what a look-up leads to, by whether the state owns the cell, and whether it has no depth
  abbrev chosen : Bool → Bool → ℕ → ℕ → ℕ → Option ℕ
  chosen owned flat n s b =
      if owned then slice_get t.next (cell_of t s b)
      else if flat then Some (default_of t s)
      else next_within t n (default_of t s) b

  unfolded : (n s b : ℕ) → s < state_count t → b < 256 → next_within t (suc n) s b ≡ chosen (owns t s b) (depth_of t s == 0) n s b
  unfolded n s b lt small = rw (base_at s lt, owner_at s b lt small, default_at s lt, depth_at s lt) refl

  -- by whether the state owns the cell
  by_owner : (n s b : ℕ) → s < state_count t → b < 256 →
      (0 < depth_of t s → next_within t n (default_of t s) b ≡ Some (target a (source a (default_of t s)) b)) →
      (owned : Bool) → owns t s b ≡ owned → chosen owned (depth_of t s == 0) n s b ≡ Some (target a (source a s) b)
  by_owner n s b lt small below true own = chained.owned s b lt small own
  by_owner n s b lt small below false other = ⊎_elim
      (λ flat. ap (λ (d : ℕ). chosen false (d == 0) n s b) flat.0 ∙ ap Some flat.1)
      (λ deep. ap (λ (z : Bool). chosen false z n s b) (not_zero (depth_of t s) deep.0) ∙ below deep.0 ∙ ap Some deep.1)
      (chained.onward s b lt small other)

  -- by the look-ups that are left: they are at least one more than the depth
  step_within : (n s b : ℕ) → s < state_count t → b < 256 → depth_of t s < n → next_within t n s b ≡ Some (target a (source a s) b)
  step_within zero s b lt small low = absurd (omega (arith, low))
  step_within (suc n) s b lt small low =
      unfolded n s b lt small
      ∙ by_owner n s b lt small
      (λ some. step_within n (default_of t s) b (default_low s lt) small (omega (arith, falls s lt some, low)))
      (owns t s b) refl

  -- one step in the table is one step in the automaton
  chained_step : (s b : ℕ) → s < state_count t → b < 256 → next_state t s b ≡ Some (target a (source a s) b)
  chained_step s b lt small = step_within (suc t.depth_bound) s b lt small (omega (arith, depth_low s lt))

  itself : (s : ℕ) → s < length a.rows → source a s ≡ s
  itself s lt = omega (arith, lt)

  follows : (s : ℕ) (bytes : List ℕ) → s < state_count t → are_bytes bytes →
      option_and_then (λ n. record_of t n) (state_from t s bytes) ≡ slice_get a.records (goes_to a (source a s) bytes)
  follows s [] lt small = chained.recorded s lt
  follows s (b ∷ bytes) lt small =
      let one : b < 256 = small 0 0 (omega arith) in
      let m : ℕ = target a (source a s) b in
      let within : target a (source a s) b < length a.rows = whole.targets (source a s) b (source_there a s whole) one in
      ap (λ o. option_and_then (λ n. record_of t n) (option_and_then (λ n. state_from t n bytes) o)) (chained_step s b lt one)
      ∙ follows m bytes (omega (arith, within, chained.all)) (λ k d inside. small (suc k) d (omega (arith, inside)))
      ∙ ap (λ z. slice_get a.records (goes_to a z bytes)) (itself m within)

  start_is : source a 1 ≡ a.start
  start_is = ⊎_elim
      (λ first. omega (arith, first, whole.start_there))
      (λ dead. omega (arith, dead.0, dead.1))
      whole.begins

  none_first : source a 0 ≡ 0
  none_first = omega arith

  pub chained_table : IsTableOf a t
  chained_table = record {
    bounds = chained.bounds;
    dead = λ b small.
        chained_step 0 b (omega (arith, chained.bounds.limits.two_states)) small
        ∙ ap Some (ap (λ z. target a z b) none_first ∙ whole.stays_dead b small);
    dead_record = chained.recorded 0 (omega (arith, chained.bounds.limits.two_states)) ∙ ap (slice_get a.records) none_first;
    same = λ bytes small.
        follows 1 bytes (omega (arith, chained.bounds.limits.two_states)) small
        ∙ ap (λ z. slice_get a.records (goes_to a z bytes)) start_is;
  }
