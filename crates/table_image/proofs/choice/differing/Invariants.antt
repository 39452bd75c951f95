-- What follows is left of both rows, and there are no more bytes than those before.
use Rattle.std.proofs.Common.{◌-◌, ◌≤◌}
use Rattle.automaton_rows.specs.Rows.{IsRowFrom}
use Rattle.table_image.proofs.choice.differing.Given as goal

abbrev pub invariant-loop-count : goal.invariant-loop-count
invariant-loop-count l = record { own_row : IsRowFrom l.from l.own; near_row : IsRowFrom l.from l.near; few : l.count ≤ l.from }

abbrev pub decreases-loop-count : goal.decreases-loop-count
decreases-loop-count l = 256 - l.from
