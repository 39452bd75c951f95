use Rattle.std.proofs.Common.{◌≡◌, ◌-◌, ◌≤◌, ◌∷◌, [], length, drop, ◌∙◌, arith}
use Rattle.apparmor_pieces.specs.Pieces.{Text, pieces_behind, pieces, written, escape}
use Rattle.apparmor_pieces.specs.laws.PieceSteps.{pieces_behind-drop, told}
use Rattle.apparmor_pieces.proofs.pieces.escape.Goals as goal

-- a backslash followed by a byte forms one piece with it
one_told : (bytes : Text) → 1 ≤ length bytes → pieces_behind (length (written (escape bytes)) - 1) bytes ≡ pieces (drop 1 bytes)
one_told [] some = absurd (omega arith)
one_told (b ∷ bytes) some = pieces_behind-drop 1 (b ∷ bytes)

pub returns-in-len1-up-clause-rest : goal.returns-in-len1-up-clause-rest
returns-in-len1-up-clause-rest c = one_told c.args.bytes.now c.in-len1-up.len_at_least ∙ told 0 c.args.bytes.now
