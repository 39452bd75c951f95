-- A byte's target is found in a row, one range after another.
use Rattle.std.proofs.Common.{◌≡◌, ◌⊎◌, inl, inr, ⊎_elim, ℕ, ◌+◌, ◌<◌, ◌≤◌, List, [], ◌∷◌, length, drop, slice_index_or, refl, sym, ap}
use Rattle.std.proofs.Common.{◌∙◌, subst, arith}
use Rattle.std.proofs.lemmas.List.{length-drop}
use Rattle.automaton_rows.specs.declared.range.TargetRange.{TargetRange}
use Rattle.automaton_rows.specs.Rows.{target_in, IsRowFrom, AreRows}
use Rattle.automaton_rows.specs.laws.RowLaws.{in_first, past_first, row_some}

-- what is left of a row that has a byte
abbrev pub StandsIn : List TargetRange → ℕ → ℕ → Type 0
StandsIn row byte i = (from : ℕ) × (from ≤ byte) × IsRowFrom from (drop i row) × (target_in (drop i row) byte ≡ target_in row byte)

-- one more range is past
past_one : (rest : List TargetRange) (r : TargetRange) (from byte t : ℕ) → byte < 256 → r.last < byte → IsRowFrom from (r ∷ rest) →
    target_in (r ∷ rest) byte ≡ t →
    (f : ℕ) × (f ≤ byte) × IsRowFrom f rest × (target_in rest byte ≡ t)
past_one rest r from byte t small lt h is = ⊎_elim
    (λ e. absurd (omega (arith, e, lt, small)))
    (λ g. (r.last + 1, omega (arith, lt), g.1, sym (past_first r rest byte lt) ∙ is))
    h.1

pub one_past : (row : List TargetRange) (byte i : ℕ) (r : TargetRange) → byte < 256 → drop i row ≡ r ∷ drop (i + 1) row → r.last < byte →
    StandsIn row byte i →
    StandsIn row byte (i + 1)
one_past row byte i r small e lt h =
    past_one (drop (i + 1) row) r h.0 byte (target_in row byte) small lt (subst (IsRowFrom h.0) e h.2)
    (ap (λ z. target_in z byte) (sym e) ∙ h.3)

pub stands_here : (row : List TargetRange) (byte i : ℕ) (r : TargetRange) → drop i row ≡ r ∷ drop (i + 1) row → byte ≤ r.last →
    StandsIn row byte i →
    r.target ≡ target_in row byte
stands_here row byte i r e le h = sym (in_first r (drop (i + 1) row) byte le) ∙ ap (λ z. target_in z byte) (sym e) ∙ h.3

pub stands_somewhere : (row : List TargetRange) (byte i : ℕ) → length row ≤ i → StandsIn row byte i → ⊥
stands_somewhere row byte i le h =
    let some = row_some (drop i row) h.0 h.2 in
    omega (arith, some, length-drop i row, le)

pub begins_within : (ranges : List TargetRange) (first : ℕ) → IsRowFrom 0 (drop first ranges) → first ≤ length ranges
begins_within ranges first h = let some = row_some (drop first ranges) 0 h in omega (arith, some, length-drop first ranges)
