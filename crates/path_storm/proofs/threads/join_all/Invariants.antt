use Rattle.std.proofs.Common.{◌≡◌, ◌+◌, All, vec_len}
use Rattle.path_storm.specs.Logs.{IsOpenedBy}
use Rattle.path_storm.proofs.threads.join_all.Given as goal

-- each session is either joined or still to be joined, and each that is joined opened as often as promised
abbrev pub invariant-loop-opening : goal.invariant-loop-opening
invariant-loop-opening g l = record {
  count : vec_len l.all + vec_len l.openings ≡ vec_len l.fn.openings;
  promised : All (λ opening. opening.promise ≡ l.fn.opens) l.openings.items;
  opened : All (IsOpenedBy l.fn.opens.ask l.fn.opens.times) l.all.items;
}

abbrev pub decreases-loop-opening : goal.decreases-loop-opening
decreases-loop-opening g l = vec_len l.openings
