-- The text so far with the texts that are still to come is the whole.
use Rattle.std.proofs.Common.{◌≡◌, ◌∷◌, ◌++◌, drop, List, ℕ}
use Rattle.std.specs.List.{flat_map}
use Rattle.apparmor_variables.specs.PathTexts.{alternative, alternatives}
use Rattle.apparmor_variables.proofs.added_bytes.add_alternatives.Given as goal

abbrev pub invariant-loop-place : goal.invariant-loop-place
invariant-loop-place g l = (old : List ℕ) → g.S.Sink.Holds l.fn.sink old → (now : List ℕ) × g.S.Sink.Holds l.sink now
    × (now ++ flat_map (λ other. 44 ∷ alternative l.slash_before l.slash_behind other) (drop l.place l.list)
    ≡ old ++ alternatives l.slash_before l.slash_behind l.list)
