-- A row as far as it is written: each byte before `from` has its target, whatever follows.
use Rattle.std.proofs.Common.{◌≡◌, ◌⊎◌, inl, inr, ⊎_elim, ℕ, ◌+◌, ◌<◌, ◌≤◌, List, [], ◌∷◌, ◌++◌, append_assoc, append-nil, refl, sym, ap}
use Rattle.std.proofs.Common.{◌∙◌, subst, arith}
use Rattle.std.proofs.lemmas.Bool.{cases_lt}
use Rattle.automaton_rows.specs.declared.range.TargetRange.{TargetRange}
use Rattle.automaton_rows.specs.Rows.{target_in, IsRowFrom, IsRowAppended, IsRowOf}
use Rattle.automaton_rows.specs.laws.RowLaws.{in_first, past_first}

pub record IsFront (holds : ℕ → ℕ → Type 0) (row : List TargetRange) (from : ℕ) : Type 0 where
  pub begins : (rest : List TargetRange) → IsRowFrom from rest → IsRowFrom 0 (row ++ rest)
  pub before : (rest : List TargetRange) (c : ℕ) → c < from → holds c (target_in (row ++ rest) c)
  pub after : (rest : List TargetRange) (c : ℕ) → from ≤ c → target_in (row ++ rest) c ≡ target_in rest c

-- the same of a list that the row is appended to
pub record IsSoFar (holds : ℕ → ℕ → Type 0) (old ranges : List TargetRange) (from : ℕ) : Type 0 where
  pub row : List TargetRange
  pub is : ranges ≡ old ++ row
  pub front : IsFront holds row from

pub none_yet : (holds : ℕ → ℕ → Type 0) (old : List TargetRange) → IsSoFar holds old old 0
none_yet holds old = record {
  row = [];
  is = sym (append-nil old);
  front = record {
    begins = λ rest h. h;
    before = λ rest c lt. absurd (omega (arith, lt));
    after = λ rest c le. refl;
  };
}

module _ (was holds : ℕ → ℕ → Type 0) (still : (c t : ℕ) → was c t → holds c t) (from : ℕ) (r : TargetRange) (here : from ≤ r.last)
    (found : (c : ℕ) → from ≤ c → c ≤ r.last → holds c r.target) where
  module _ (row : List TargetRange) (front : IsFront was row from) where
    within : (rest : List TargetRange) (c : ℕ) → c ≤ r.last → holds c (target_in (row ++ (r ∷ rest)) c)
    within rest c le = ⊎_elim
        (λ lt. still c (target_in (row ++ (r ∷ rest)) c) (front.before (r ∷ rest) c lt))
        (λ ge. subst (holds c) (sym (front.after (r ∷ rest) c ge ∙ in_first r rest c le)) (found c ge le))
        (cases_lt c from)

    moved : (rest : List TargetRange) → row ++ (r ∷ rest) ≡ (row ++ r ∷ []) ++ rest
    moved rest = sym (append_assoc row (r ∷ []) rest)

    front_more : r.last < 255 → IsFront holds (row ++ r ∷ []) (r.last + 1)
    front_more more = record {
      begins = λ rest h. subst (IsRowFrom 0) (moved rest) (front.begins (r ∷ rest) (here, inr (more, h)));
      before = λ rest c lt. subst (λ z. holds c (target_in z c)) (moved rest) (within rest c (omega (arith, lt)));
      after = λ rest c le.
          let lt : r.last < c = omega (arith, le) in
          ap (λ z. target_in z c) (sym (moved rest)) ∙ front.after (r ∷ rest) c (omega (arith, here, lt)) ∙ past_first r rest c lt;
    }

    front_whole : r.last ≡ 255 → IsRowOf holds (row ++ r ∷ [])
    front_whole all = record {
      is_row = front.begins (r ∷ []) (here, inl all);
      targets = λ c small. within [] c (omega (arith, small, all));
    }

  -- one more range
  pub one_range_more : (old ranges : List TargetRange) → IsSoFar was old ranges from → r.last < 255 →
      IsSoFar holds old (ranges ++ r ∷ []) (r.last + 1)
  one_range_more old ranges far more = record {
    row = far.row ++ r ∷ [];
    is = ap (λ z. z ++ r ∷ []) far.is ∙ append_assoc old far.row (r ∷ []);
    front = front_more far.row far.front more;
  }

  -- the last range
  pub last_range : (old ranges : List TargetRange) → IsSoFar was old ranges from → r.last ≡ 255 →
      IsRowAppended holds old (ranges ++ r ∷ [])
  last_range old ranges far all = (
    far.row ++ r ∷ [],
    ap (λ z. z ++ r ∷ []) far.is ∙ append_assoc old far.row (r ∷ []),
    front_whole far.row far.front all,
  )
