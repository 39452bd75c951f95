use Rattle.apparmor_pieces.specs.laws.PieceLaws.{written_again}
use Rattle.apparmor_pieces.proofs.laws.texts_are_their_pieces.Goals as goal

pub returns : goal.returns
returns c = written_again 0
