-- The pieces before the rest were taken.
use Rattle.std.proofs.Common.{◌≡◌, length}
use Rattle.apparmor_pieces.specs.Pieces.{pieces}
use Rattle.apparmor_variables.specs.Variables.{texts_from, value_texts}
use Rattle.apparmor_variables.specs.inner.Known.{known_in}
use Rattle.apparmor_variables.proofs.one_list.texts_of.Given as goal

abbrev pub invariant-loop-piece : goal.invariant-loop-piece
invariant-loop-piece l = texts_from (known_in l.declared l.made) l.texts (pieces l.rest) ≡ value_texts (known_in l.declared l.made) l.value

abbrev pub decreases-loop-piece : goal.decreases-loop-piece
decreases-loop-piece l = length l.rest
