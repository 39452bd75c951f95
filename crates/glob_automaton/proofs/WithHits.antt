-- Other records for the same states.
use Rattle.std.proofs.Common.{◌≤◌, ℕ, List, length, refl, arith}
use Rattle.std.proofs.lemmas.Option.{slice_get_within}
use Rattle.names.specs.declared.record.Record.{Record}
use Rattle.automaton_rows.specs.Automata.{Automaton, IsWhole}
use Rattle.glob_automaton.specs.inner.Leaves.{AreWithHits, IsWithHits}

pub all_with_hits : (hits : Record) (a : Automaton) (records : List Record) (state : ℕ) → IsWhole a → length a.rows ≤ state →
    state ≤ length a.rows →
    AreWithHits hits a records state → IsWithHits hits a (record a { records = records })
all_with_hits hits a records state whole all within are = record {
  whole = record {
    rows_long = whole.rows_long;
    targets = whole.targets;
    each_record = omega (arith, are.0, all, within);
    start_there = whole.start_there;
    few = whole.few;
    stays_dead = whole.stays_dead;
    begins = whole.begins;
  };
  each_row = refl;
  start = refl;
  targets = λ s c lt small. refl;
  records = λ s r at. are.1 s r (omega (arith, slice_get_within a.records s r at, whole.each_record, all)) at;
}
