-- Rows of ranges: what follows a row doesn't matter to it, and what is left of it after a byte.
use Rattle.std.proofs.Common.{◌≡◌, ◌⊎◌, inl, inr, ⊎_elim, ℕ, ◌+◌, ◌<◌, ◌≤◌, Bool, true, false, List, [], ◌∷◌, ◌++◌, length, nat_le}
use Rattle.std.proofs.Common.{if◌then◌else◌, refl, sym, ap, ◌∙◌, arith}
use Rattle.std.proofs.lemmas.Bool.{cases_lt, le-leb, leb-true}
use Rattle.automaton_rows.specs.declared.range.TargetRange.{TargetRange}
use Rattle.automaton_rows.specs.Rows.{target_in, ends_at, IsRowFrom}

-- a byte within the first range has its target
pub in_first : (r : TargetRange) (rest : List TargetRange) (b : ℕ) → b ≤ r.last → target_in (r ∷ rest) b ≡ r.target
in_first r rest b le = ap (λ z. if z then r.target else target_in rest b) (le-leb b r.last le)

past : (b n : ℕ) → n < b → nat_le b n ≡ false
past b n lt = elim (nat_le b n) as (λ z. nat_le b n ≡ z → z ≡ false) [
  | true ↦ λ e. absurd (omega (arith, lt, leb-true b n e))
  | false ↦ λ e. refl
] refl

-- a byte past it has that of the others
pub past_first : (r : TargetRange) (rest : List TargetRange) (b : ℕ) → r.last < b → target_in (r ∷ rest) b ≡ target_in rest b
past_first r rest b lt = ap (λ z. if z then r.target else target_in rest b) (past b r.last lt)

-- what follows a row changes none of its targets
pub row_stays : (row more : List TargetRange) (from : ℕ) → IsRowFrom from row → IsRowFrom from (row ++ more)
row_stays [] more from h = absurd h
row_stays (r ∷ rest) more from h = (h.0, ⊎_elim (λ e. inl e) (λ t. inr (t.0, row_stays rest more (r.last + 1) t.1)) h.1)

pub target_stays : (row more : List TargetRange) (from b : ℕ) → IsRowFrom from row → b < 256 → target_in (row ++ more) b ≡ target_in row b
target_stays [] more from b h small = absurd h
target_stays (r ∷ rest) more from b h small = ⊎_elim
    (λ lt. past_first r (rest ++ more) b lt ∙ ⊎_elim
    (λ e. absurd (omega (arith, e, lt, small)))
    (λ t. target_stays rest more (r.last + 1) b t.1 small) h.1
    ∙ sym (past_first r rest b lt))
    (λ le. in_first r (rest ++ more) b le ∙ sym (in_first r rest b le))
    (cases_lt r.last b)

-- a row isn't empty
pub row_some : (row : List TargetRange) (from : ℕ) → IsRowFrom from row → 0 < length row
row_some [] from h = absurd h
row_some (r ∷ rest) from h = omega arith
