-- The names that were pushed and those that the rest uses are those that the text uses.
use Rattle.std.proofs.Common.{◌≡◌, ◌++◌, map, length}
use Rattle.apparmor_pieces.specs.Pieces.{used_names}
use Rattle.apparmor_variables.proofs.variables.push_used.Given as goal

abbrev pub invariant-loop-piece : goal.invariant-loop-piece
invariant-loop-piece l = map (λ name. name.now) l.names.items ++ used_names l.rest ≡ map (λ name. name.now) l.fn.names.items
    ++ used_names l.text

abbrev pub decreases-loop-piece : goal.decreases-loop-piece
decreases-loop-piece l = length l.rest
