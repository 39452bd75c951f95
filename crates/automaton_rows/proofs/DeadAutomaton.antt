-- State 0 alone.
use Rattle.std.proofs.Common.{◌≡◌, ◌⊎◌, inl, inr, ℕ, ◌<◌, ◌∷◌, [], List, length, drop, slice_index_or, refl, sym, ap, ◌∙◌, subst, arith}
use Rattle.names.specs.declared.record.Record.{Record}
use Rattle.automaton_rows.specs.Automata.{Automaton, IsWhole}
use Rattle.automaton_rows.specs.declared.range.TargetRange.{TargetRange}
use Rattle.automaton_rows.specs.Rows.{rows_of, target_in}
use Rattle.automaton_rows.specs.laws.RowLaws.{in_first}
use Rattle.automaton_rows.specs.laws.RowLists.{row_at, rows_long, target_at, targets_long}

abbrev pub one : TargetRange
one = record { last = 255; target = 0 }

zero_target : (s b : ℕ) → s < 1 → b < 256 → slice_index_or (slice_index_or (rows_of (one ∷ []) (0 ∷ [])) s []) b 0 ≡ 0
zero_target s b lt small =
    target_at (one ∷ []) (0 ∷ []) s b lt small
    ∙ ap (λ f. target_in (drop f (one ∷ [])) b) (ap (λ i. slice_index_or (0 ∷ []) i 0) (none s lt))
    ∙ in_first one [] b (omega (arith, small))
  where
    none : (s : ℕ) → s < 1 → s ≡ 0
    none s lt = omega (arith, lt)

alone : (records : List Record) → length records ≡ 1 →
    IsWhole (record { rows = rows_of (one ∷ []) (0 ∷ []); records = records; start = 0 })
alone records long = record {
  rows_long = λ s lt. ap length (row_at (one ∷ []) (0 ∷ []) s (omega (arith, lt, rows_long (one ∷ []) (0 ∷ [])))) ∙ targets_long _ 0 256;
  targets = λ s b lt small. omega (
    arith,
    zero_target s b (omega (arith, lt, rows_long (one ∷ []) (0 ∷ []))) small,
    rows_long
        (one ∷ []) (0 ∷ []),
  );
  each_record = omega (arith, long, rows_long (one ∷ []) (0 ∷ []));
  start_there = omega (arith, rows_long (one ∷ []) (0 ∷ []));
  few = omega (arith, rows_long (one ∷ []) (0 ∷ []));
  stays_dead = λ b small. zero_target 0 b (omega arith) small;
  begins = inr (refl, rows_long (one ∷ []) (0 ∷ []));
}

pub dead_whole : (ranges : List TargetRange) (firsts : List ℕ) (records : List Record) → ranges ≡ one ∷ [] → firsts ≡ 0 ∷ [] →
    length records ≡ 1 →
    IsWhole (record { rows = rows_of ranges firsts; records = records; start = 0 })
dead_whole ranges firsts records e f long =
    subst (λ (r : List TargetRange). IsWhole (record { rows = rows_of r firsts; records = records; start = 0 })) (sym e)
    (subst (λ (s : List ℕ). IsWhole (record { rows = rows_of (one ∷ []) s; records = records; start = 0 })) (sym f) (alone records long))
