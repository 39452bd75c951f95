-- Rows of 256 targets.
use Rattle.std.proofs.Common.{◌≡◌, ◌⊎◌, inl, inr, ⊎_elim, ℕ, zero, suc, ◌+◌, ◌<◌, ◌≤◌, List, [], ◌∷◌, ◌++◌, length, map, drop}
use Rattle.std.proofs.Common.{slice_index_or, refl, sym, ap, ◌∙◌, subst, arith}
use Rattle.std.proofs.lemmas.List.{length-map, get_or-map}
use Rattle.automaton_rows.specs.declared.range.TargetRange.{TargetRange}
use Rattle.automaton_rows.specs.Rows.{target_in, IsRowFrom, targets_from, rows_of, AreRows}
use Rattle.automaton_rows.specs.laws.RowLaws.{row_stays, target_stays}

pub targets_long : (row : List TargetRange) (b n : ℕ) → length (targets_from row b n) ≡ n
unfolding targets_from
targets_long row b zero = refl
targets_long row b (suc n) = ap suc (targets_long row (b + 1) n)

targets_at : (row : List TargetRange) (b n i c : ℕ) → i < n → b + i ≡ c → slice_index_or (targets_from row b n) i 0 ≡ target_in row c
unfolding targets_from
targets_at row b zero i c lt e = absurd (omega (arith, lt))
targets_at row b (suc n) zero c lt e = ap (target_in row) (omega (arith, e))
targets_at row b (suc n) (suc i) c lt e = targets_at row (b + 1) n i c (omega (arith, lt)) (omega (arith, e))

-- the row of a state
pub row_at : (ranges : List TargetRange) (firsts : List ℕ) (s : ℕ) → s < length firsts →
    slice_index_or (rows_of ranges firsts) s [] ≡ targets_from (drop (slice_index_or firsts s 0) ranges) 0 256
row_at ranges firsts s lt = get_or-map (λ first. targets_from (drop first ranges) 0 256) firsts s 0 [] lt

pub rows_long : (ranges : List TargetRange) (firsts : List ℕ) → length (rows_of ranges firsts) ≡ length firsts
rows_long ranges firsts = length-map firsts (λ first. targets_from (drop first ranges) 0 256)

pub target_at : (ranges : List TargetRange) (firsts : List ℕ) (s b : ℕ) → s < length firsts → b < 256 →
    slice_index_or (slice_index_or (rows_of ranges firsts) s []) b 0 ≡ target_in (drop (slice_index_or firsts s 0) ranges) b
target_at ranges firsts s b lt small =
    ap (λ z. slice_index_or z b 0) (row_at ranges firsts s lt)
    ∙ targets_at (drop (slice_index_or firsts s 0) ranges) 0 256 b b small (omega arith)
