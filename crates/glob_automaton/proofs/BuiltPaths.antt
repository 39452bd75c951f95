-- The paths' automata that are kept.
use Rattle.std.proofs.Common.{◌≡◌, ◌++◌, ◌∷◌, [], ℕ, List, Some, slice_get, sym, subst}
use Rattle.glob_automaton.proofs.ClosureSteps.{pushed_each}
use Rattle.glob_automaton.specs.declared.leaf.PathAutomaton.{PathAutomaton}
use Rattle.glob_automaton.specs.inner.ChartStates.{IsBuilt}

abbrev pub EachBuilt : List PathAutomaton → Type 0
EachBuilt paths = (i : ℕ) (path : PathAutomaton) → slice_get paths i ≡ Some path → IsBuilt path.chart path.dfa

pub one_more_built : (old new : List PathAutomaton) (one : PathAutomaton) → EachBuilt old → IsBuilt one.chart one.dfa →
    new ≡ old ++ one ∷ [] → EachBuilt new
one_more_built old new one all is grown = subst EachBuilt (sym grown) (pushed_each (λ i path. IsBuilt path.chart path.dfa) old one all is)
