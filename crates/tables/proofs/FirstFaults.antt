-- A table is in bounds, or has a first fault.
use Rattle.std.proofs.Common.{◌≡◌, ℕ, ◌+◌, ◌<◌, ◌≤◌, ◌⊎◌, inl, inr, ⊎_elim, Some, slice_get, arith}
use Rattle.std.proofs.lemmas.Bool.{cases_lt}
use Rattle.tables.specs.Bounds.{HasFault, InBounds, InLimits, IsFirstFault, IsShaped, IsTooDeep, fault_number, fault_place}
use Rattle.tables.specs.Tables.{Table, state_count, cell_count, record_count}
use Rattle.tables.specs.declared.fault.ImageFault.{ImageFault}
use Rattle.tables.specs.declared.fault.ImageFault.TheVariants as fault
use Rattle.tables.specs.laws.Decisions.{decided_limits, decided_shaped, deep_or_not, entries_outcome, places_outcome}

-- fault n at place j is tested before fault k at place p
abbrev pub Earlier : ℕ → ℕ → ℕ → ℕ → Type 0
Earlier n j k p = (n < k) ⊎ ((n ≡ k) × (j < p))

-- a greater fault is not tested before
later : (n j k p : ℕ) → k < n → ¬ (Earlier n j k p)
later n j k p lt e = ⊎_elim (λ h. omega (arith, lt, h)) (λ h. let same = h.0 in omega (arith, lt, same)) e

-- at the fault itself, the lesser places are tested before
at_place : (n j p : ℕ) → Earlier n j n p → j < p
at_place n j p e = ⊎_elim (λ h. absurd (omega (arith, h))) (λ h. h.1) e

orders : (n j k p : ℕ) → ((k < n) ⊎ ((k ≡ n) × (p ≤ j))) ⊎ Earlier n j k p
orders n j k p = ⊎_elim
    (λ lt. inr (inl lt))
    (λ le. ⊎_elim
    (λ lt. inl (inl lt))
    (λ ge. ⊎_elim
    (λ low. inr (inr (omega (arith, le, ge), low)))
    (λ past. inl (inr (omega (arith, le, ge), past)))
    (cases_lt j p))
    (cases_lt k n))
    (cases_lt n k)

first_by : (t : Table) (f : ImageFault) → HasFault t f →
    ((g : ImageFault) → Earlier (fault_number g) (fault_place g) (fault_number f) (fault_place f) → ¬ (HasFault t g)) → IsFirstFault t f
first_by t f h none = record {
  has = h;
  first = λ g there. ⊎_elim (λ goes. goes) (λ e. absurd (none g e there))
      (orders (fault_number g) (fault_place g) (fault_number f) (fault_place f));
}

-- nothing is wrong with what is tested before fault k at place p
record IsRightBefore (t : Table) (k p : ℕ) : Type 0 where
  limits : Earlier 5 0 k p → InLimits (state_count t) (cell_count t) (record_count t)
  shaped : Earlier 6 0 k p → IsShaped t
  defaults : (j n : ℕ) → Earlier 7 j k p → slice_get t.default j ≡ Some n → n < state_count t
  bases : (j n : ℕ) → Earlier 8 j k p → slice_get t.base j ≡ Some n → n + 255 < cell_count t
  accepts : (j n : ℕ) → Earlier 9 j k p → slice_get t.accept j ≡ Some n → n < record_count t
  nexts : (j n : ℕ) → Earlier 10 j k p → slice_get t.next j ≡ Some n → n < state_count t
  depths : (j d : ℕ) → Earlier 12 j k p → slice_get t.depth j ≡ Some d → ¬ (IsTooDeep t j d)

none_earlier : (t : Table) (k p : ℕ) → IsRightBefore t k p →
    (g : ImageFault) → Earlier (fault_number g) (fault_place g) k p → ¬ (HasFault t g)
none_earlier t k p right fault.Short e h = h
none_earlier t k p right fault.Magic e h = h
none_earlier t k p right fault.Version e h = h
none_earlier t k p right fault.Reserved e h = h
none_earlier t k p right fault.Counts e h = h (right.limits e)
none_earlier t k p right fault.Length e h = h (right.shaped e)
none_earlier t k p right (fault.Default s) e h = let low = right.defaults s h.0 e h.1 in let past = h.2 in omega (arith, low, past)
none_earlier t k p right (fault.Base s) e h = let low = right.bases s h.0 e h.1 in let past = h.2 in omega (arith, low, past)
none_earlier t k p right (fault.Accept s) e h = let low = right.accepts s h.0 e h.1 in let past = h.2 in omega (arith, low, past)
none_earlier t k p right (fault.Next c) e h = let low = right.nexts c h.0 e h.1 in let past = h.2 in omega (arith, low, past)
none_earlier t k p right fault.NoMemory e h = h
none_earlier t k p right (fault.Depth s) e h = right.depths s h.0 e h.1 h.2

abbrev DefaultsLow : Table → Type 0
DefaultsLow t = (s n : ℕ) → slice_get t.default s ≡ Some n → n < state_count t

abbrev BasesLow : Table → Type 0
BasesLow t = (s n : ℕ) → slice_get t.base s ≡ Some n → n + 255 < cell_count t

abbrev AcceptsLow : Table → Type 0
AcceptsLow t = (s n : ℕ) → slice_get t.accept s ≡ Some n → n < record_count t

abbrev NextsLow : Table → Type 0
NextsLow t = (c n : ℕ) → slice_get t.next c ≡ Some n → n < state_count t

module _ (t : Table) where
  counts_first : ¬ (InLimits (state_count t) (cell_count t) (record_count t)) → IsFirstFault t fault.Counts
  counts_first wrong = first_by t fault.Counts wrong (none_earlier t 5 0 (record {
    limits = λ e. absurd (omega (arith, at_place 5 0 0 e));
    shaped = λ e. absurd (later 6 0 5 0 (omega arith) e);
    defaults = λ j n e. absurd (later 7 j 5 0 (omega arith) e);
    bases = λ j n e. absurd (later 8 j 5 0 (omega arith) e);
    accepts = λ j n e. absurd (later 9 j 5 0 (omega arith) e);
    nexts = λ j n e. absurd (later 10 j 5 0 (omega arith) e);
    depths = λ j d e. absurd (later 12 j 5 0 (omega arith) e);
  }))

  module _ (limits : InLimits (state_count t) (cell_count t) (record_count t)) where
    length_first : ¬ (IsShaped t) → IsFirstFault t fault.Length
    length_first wrong = first_by t fault.Length wrong (none_earlier t 6 0 (record {
      limits = λ e. limits;
      shaped = λ e. absurd (omega (arith, at_place 6 0 0 e));
      defaults = λ j n e. absurd (later 7 j 6 0 (omega arith) e);
      bases = λ j n e. absurd (later 8 j 6 0 (omega arith) e);
      accepts = λ j n e. absurd (later 9 j 6 0 (omega arith) e);
      nexts = λ j n e. absurd (later 10 j 6 0 (omega arith) e);
      depths = λ j d e. absurd (later 12 j 6 0 (omega arith) e);
    }))

    module _ (shaped : IsShaped t) where
      default_first : (s : ℕ) → HasFault t (fault.Default s) →
          ((j n : ℕ) → j < s → slice_get t.default j ≡ Some n → n < state_count t) → IsFirstFault t (fault.Default s)
      default_first s h below = first_by t (fault.Default s) h (none_earlier t 7 s (record {
        limits = λ e. limits;
        shaped = λ e. shaped;
        defaults = λ j n e. below j n (at_place 7 j s e);
        bases = λ j n e. absurd (later 8 j 7 s (omega arith) e);
        accepts = λ j n e. absurd (later 9 j 7 s (omega arith) e);
        nexts = λ j n e. absurd (later 10 j 7 s (omega arith) e);
        depths = λ j d e. absurd (later 12 j 7 s (omega arith) e);
      }))

      module _ (defaults : DefaultsLow t) where
        base_first : (s : ℕ) → HasFault t (fault.Base s) →
            ((j n : ℕ) → j < s → slice_get t.base j ≡ Some n → n + 255 < cell_count t) → IsFirstFault t (fault.Base s)
        base_first s h below = first_by t (fault.Base s) h (none_earlier t 8 s (record {
          limits = λ e. limits;
          shaped = λ e. shaped;
          defaults = λ j n e. defaults j n;
          bases = λ j n e. below j n (at_place 8 j s e);
          accepts = λ j n e. absurd (later 9 j 8 s (omega arith) e);
          nexts = λ j n e. absurd (later 10 j 8 s (omega arith) e);
          depths = λ j d e. absurd (later 12 j 8 s (omega arith) e);
        }))

        module _ (bases : BasesLow t) where
          accept_first : (s : ℕ) → HasFault t (fault.Accept s) →
              ((j n : ℕ) → j < s → slice_get t.accept j ≡ Some n → n < record_count t) → IsFirstFault t (fault.Accept s)
          accept_first s h below = first_by t (fault.Accept s) h (none_earlier t 9 s (record {
            limits = λ e. limits;
            shaped = λ e. shaped;
            defaults = λ j n e. defaults j n;
            bases = λ j n e. bases j n;
            accepts = λ j n e. below j n (at_place 9 j s e);
            nexts = λ j n e. absurd (later 10 j 9 s (omega arith) e);
            depths = λ j d e. absurd (later 12 j 9 s (omega arith) e);
          }))

          module _ (accepts : AcceptsLow t) where
            next_first : (c : ℕ) → HasFault t (fault.Next c) →
                ((j n : ℕ) → j < c → slice_get t.next j ≡ Some n → n < state_count t) → IsFirstFault t (fault.Next c)
            next_first c h below = first_by t (fault.Next c) h (none_earlier t 10 c (record {
              limits = λ e. limits;
              shaped = λ e. shaped;
              defaults = λ j n e. defaults j n;
              bases = λ j n e. bases j n;
              accepts = λ j n e. accepts j n;
              nexts = λ j n e. below j n (at_place 10 j c e);
              depths = λ j d e. absurd (later 12 j 10 c (omega arith) e);
            }))

            module _ (nexts : NextsLow t) where
              depth_first : (s : ℕ) → HasFault t (fault.Depth s) →
                  ((j d : ℕ) → j < s → slice_get t.depth j ≡ Some d → ¬ (IsTooDeep t j d)) → IsFirstFault t (fault.Depth s)
              depth_first s h below = first_by t (fault.Depth s) h (none_earlier t 12 s (record {
                limits = λ e. limits;
                shaped = λ e. shaped;
                defaults = λ j n e. defaults j n;
                bases = λ j n e. bases j n;
                accepts = λ j n e. accepts j n;
                nexts = λ j n e. nexts j n;
                depths = λ j d e. below j d (at_place 12 j s e);
              }))

pub table_outcome : (t : Table) → InBounds t ⊎ ((f : ImageFault) × IsFirstFault t f)
table_outcome t = ⊎_elim
    (λ limits. ⊎_elim
    (λ shaped. ⊎_elim
    (λ defaults. ⊎_elim
    (λ bases. ⊎_elim
    (λ accepts. ⊎_elim
    (λ nexts. ⊎_elim
    (λ depths. inl (record {
      limits = limits;
      shaped = shaped;
      defaults = defaults;
      bases = bases;
      accepts = accepts;
      nexts = nexts;
      depths = depths;
    }))
    (λ w. inr (fault.Depth w.0, depth_first t limits shaped defaults bases accepts nexts w.0 w.1 w.2))
    (places_outcome t.depth (λ s d. ¬ (IsTooDeep t s d)) (IsTooDeep t) (deep_or_not t shaped defaults)))
    (λ w. inr (fault.Next w.0, next_first t limits shaped defaults bases accepts w.0 w.1 w.2))
    (entries_outcome t.next (λ n. n < state_count t) (λ n. state_count t ≤ n) (λ n. cases_lt n (state_count t))))
    (λ w. inr (fault.Accept w.0, accept_first t limits shaped defaults bases w.0 w.1 w.2))
    (entries_outcome t.accept (λ n. n < record_count t) (λ n. record_count t ≤ n) (λ n. cases_lt n (record_count t))))
    (λ w. inr (fault.Base w.0, base_first t limits shaped defaults w.0 w.1 w.2))
    (entries_outcome t.base (λ n. n + 255 < cell_count t) (λ n. cell_count t ≤ n + 255) (λ n. cases_lt (n + 255) (cell_count t))))
    (λ w. inr (fault.Default w.0, default_first t limits shaped w.0 w.1 w.2))
    (entries_outcome t.default (λ n. n < state_count t) (λ n. state_count t ≤ n) (λ n. cases_lt n (state_count t))))
    (λ no. inr (fault.Length, length_first t limits no))
    (decided_shaped t))
    (λ no. inr (fault.Counts, counts_first t no))
    (decided_limits (state_count t) (cell_count t) (record_count t))
