-- The text so far followed by what the rest becomes is the whole, if there is a whole.
use Rattle.std.proofs.Common.{◌≡◌, List, ℕ, length}
use Rattle.apparmor_pieces.specs.Pieces.{pieces}
use Rattle.apparmor_variables.specs.PathTexts.{text_of, path_text}
use Rattle.apparmor_variables.specs.inner.Known.{known_in}
use Rattle.apparmor_variables.proofs.placement.put_in_place.Given as goal

abbrev pub invariant-loop-piece : goal.invariant-loop-piece
invariant-loop-piece g l = (now : List ℕ) × g.S.Sink.Holds l.sink now
    × (text_of (known_in l.declared l.made) now (pieces l.rest) ≡ path_text (known_in l.declared l.made) l.path)

abbrev pub decreases-loop-piece : goal.decreases-loop-piece
decreases-loop-piece g l = length l.rest
