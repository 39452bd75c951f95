-- The row of a set as ranges, one more where the target changes.
use Rattle.std.proofs.Common.{◌≡◌, ⊎_elim, Bool, slice_index_or, ℕ, zero, suc, ◌+◌, ◌-◌, ◌<◌, ◌≤◌, ◌++◌, ◌∷◌, [], List}
use Rattle.std.proofs.Common.{sym, subst, subst₂, refl}
use Rattle.std.proofs.Common.{arith}
use Rattle.std.proofs.lemmas.Bool.{cases_lt}
use Rattle.automaton_rows.specs.declared.range.TargetRange.{TargetRange}
use Rattle.automaton_rows.specs.Rows.{IsRowAppended, target_in}
use Rattle.automaton_rows.specs.laws.Fronts.{IsSoFar, one_range_more, last_range}
use Rattle.glob_automaton.specs.declared.chart.Chart.{Chart}
use Rattle.glob_automaton.specs.inner.Alike.{AreAlike, AreLike, AreNamed}
use Rattle.glob_automaton.specs.inner.Drawings.{IsPartOfChart}
use Rattle.glob_automaton.specs.inner.States.{Keeps, IsTargetOf}
use Rattle.glob_automaton.proofs.RowSteps.{same_step}
use Rattle.glob_automaton.proofs.SetSteps.{still_target}

module _ (chart : Chart) (set : List ℕ) where
  -- the bytes before the open range have their targets, and those in it so far have its target
  abbrev pub IsWritten : List (List ℕ) → List TargetRange → List TargetRange → ℕ → ℕ → Type 0
  IsWritten sets old ranges t byte =
      (from : ℕ) × (from < byte) × IsSoFar (IsTargetOf chart sets set) old ranges from
      × ((c : ℕ) → from ≤ c → c < byte → IsTargetOf chart sets set c t)

  -- the first byte alone
  pub one_alike : (sets : List (List ℕ)) (t : ℕ) → IsTargetOf chart sets set 0 t → (c : ℕ) → 0 ≤ c → c < 1 → IsTargetOf chart sets set c t
  one_alike sets t is c low lt = subst (λ z. IsTargetOf chart sets set z t) (omega (arith, lt)) is

  -- the next byte is like the one before it
  pub like_last : (sets : List (List ℕ)) (least : List ℕ) (named : List Bool) → IsPartOfChart chart → AreAlike chart least →
      AreNamed chart set named →
      (old ranges : List TargetRange) (t byte : ℕ) → byte < 256 → AreLike least named (byte - 1) byte → IsWritten sets old ranges t byte →
      IsWritten sets old ranges t (byte + 1)
  like_last sets least named part alike marks old ranges t byte small like h = (
    h.0,
    omega (arith, h.1),
    h.2,
    λ c le lt. ⊎_elim
        (λ below. h.3 c le below)
        (λ ge.
        let its = h.3 (byte - 1) (omega (arith, h.1)) (omega (arith, h.1)) in
        subst (λ z. IsTargetOf chart sets set z t) (omega (arith, lt, ge)) (
          its.0,
          same_step chart least part alike set named marks (byte - 1) byte (slice_index_or sets t []) (omega (arith, small)) small
              like.alike like.one_unmarked like.other_unmarked its.1,
        ))
        (cases_lt c byte),
  )

  -- so are all bytes up to one
  pub like_those : (sets : List (List ℕ)) (least : List ℕ) (named : List Bool) → IsPartOfChart chart → AreAlike chart least →
      AreNamed chart set named → (old ranges : List TargetRange) (t from more : ℕ) → from + more ≤ 256 →
      ((b : ℕ) → from ≤ b → b < from + more → AreLike least named (b - 1) b) → IsWritten sets old ranges t from →
      IsWritten sets old ranges t (from + more)
  like_those sets least named part alike marks old ranges t from zero small like h =
      subst (IsWritten sets old ranges t) (omega arith) h
  like_those sets least named part alike marks old ranges t from (suc more) small like h =
      subst (IsWritten sets old ranges t) (omega arith)
      (like_last sets least named part alike marks old ranges t (from + more) (omega (arith, small))
      (like (from + more) (omega arith) (omega arith))
      (like_those sets least named part alike marks old ranges t from more (omega (arith, small))
      (λ b le lt. like b le (omega (arith, lt))) h))

  module _ (sets new : List (List ℕ)) (kept : Keeps sets new) where
    still : (c t : ℕ) → IsTargetOf chart sets set c t → IsTargetOf chart new set c t
    still c t is = still_target chart sets new set c t kept is

    -- the next byte has the same target
    pub same_range : (old ranges : List TargetRange) (t next byte : ℕ) → IsWritten sets old ranges t byte → next ≡ t →
        IsTargetOf chart new set byte next →
        IsWritten new old ranges t (byte + 1)
    same_range old ranges t next byte h same is = (
      h.0,
      omega (arith, h.1),
      record {
        row = h.2.row;
        is = h.2.is;
        front = record {
          begins = h.2.front.begins;
          before = λ rest c lt. still c (target_in (h.2.row ++ rest) c) (h.2.front.before rest c lt);
          after = h.2.front.after;
        };
      },
      λ c le lt. ⊎_elim
          (λ below. still c t (h.3 c le below))
          (λ ge. subst₂ (λ x y. IsTargetOf chart new set x y) (omega (arith, lt, ge)) same is)
          (cases_lt c byte),
    )

    -- the next byte has another target
    pub one_more : (old ranges more : List TargetRange) (t next byte : ℕ) → byte < 256 → IsWritten sets old ranges t byte →
        more ≡ ranges ++ record { last = byte - 1; target = t } ∷ [] → IsTargetOf chart new set byte next →
        IsWritten new old more next (byte + 1)
    one_more old ranges more t next byte small h e is =
        let r : TargetRange = record { last = byte - 1; target = t } in
        let back : byte - 1 + 1 ≡ byte = omega (arith, h.1) in (
          byte,
          omega arith,
          subst (λ (z : List TargetRange). IsSoFar (IsTargetOf chart new set) old z byte) (sym e)
              (subst (λ z. IsSoFar (IsTargetOf chart new set) old (ranges ++ r ∷ []) z) back
              (one_range_more (IsTargetOf chart sets set) (IsTargetOf chart new set) still h.0 r (omega (arith, h.1))
              (λ c le within. still c t (h.3 c le (omega (arith, within, h.1)))) old ranges h.2 (omega (arith, small, h.1)))),
          λ c le lt. subst (λ z. IsTargetOf chart new set z next) (omega (arith, le, lt)) is,
        )

  pub whole_row : (sets : List (List ℕ)) (old ranges more : List TargetRange) (t byte : ℕ) → byte ≡ 256 →
      IsWritten sets old ranges t byte →
      more ≡ ranges ++ record { last = 255; target = t } ∷ [] → IsRowAppended (IsTargetOf chart sets set) old more
  whole_row sets old ranges more t byte all h e =
      let r : TargetRange = record { last = 255; target = t } in
      subst (IsRowAppended (IsTargetOf chart sets set) old) (sym e)
      (last_range (IsTargetOf chart sets set) (IsTargetOf chart sets set) (λ c z k. k) h.0 r (omega (arith, h.1, all))
      (λ c le within. h.3 c le (omega (arith, within, all))) old ranges h.2 refl)
