-- The bytes at which the targets of a set may change, before any place of the set is read.
use Rattle.std.proofs.Common.{◌≡◌, ℕ, ◌-◌, arith, zero, suc, false, List, slice_index_or, refl}
use Rattle.std.proofs.Math.ListN.{replicate}
use Rattle.glob_automaton.specs.declared.byte_bits.ByteBits.{ByteBits}
use Rattle.glob_automaton.specs.inner.Alike.{AreEdges}
use Rattle.glob_automaton.specs.inner.Marks.{AreMarks}
use Rattle.glob_automaton.proofs.NamedSteps.{NamedBefore}
use Rattle.glob_automaton.specs.declared.chart.Chart.{Chart}

unmarked : (n b : ℕ) → slice_index_or (replicate n false) b false ≡ false
unmarked zero b = refl
unmarked (suc n) zero = refl
unmarked (suc n) (suc b) = unmarked n b

pub none_named : (chart : Chart) (set : List ℕ) → NamedBefore chart set (replicate 256 false) 0
none_named chart set = record { long = refl; each = λ k b place lt. absurd (omega (arith, lt)) }

pub none_marked : (least : List ℕ) (edges : ByteBits) → AreEdges least edges.words →
    AreMarks least (record { named = replicate 256 false; edges = edges })
none_marked least edges are = record {
  long = refl;
  like = λ b some small none. record {
    alike = are b some small none;
    one_unmarked = unmarked 256 (b - 1);
    other_unmarked = unmarked 256 b;
  };
}
