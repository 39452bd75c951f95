-- The names before the rest are known.
use Rattle.std.proofs.Common.{◌≡◌, ◌++◌, List, length}
use Rattle.apparmor_pieces.specs.Pieces.{Text, used_names}
use Rattle.apparmor_variables.specs.inner.Known.{known_in}
use Rattle.apparmor_variables.specs.inner.Way.{IsSound, AreKnown}
use Rattle.apparmor_variables.proofs.lists.make_used.Given as goal

abbrev pub invariant-loop-piece : goal.invariant-loop-piece
invariant-loop-piece l = record {
  sound : IsSound l.declared l.made;
  known : (before : List Text) × (used_names l.path ≡ before ++ used_names l.rest)
      × AreKnown (known_in l.declared l.made.lists.items) before;
}

abbrev pub decreases-loop-piece : goal.decreases-loop-piece
decreases-loop-piece l = length l.rest
