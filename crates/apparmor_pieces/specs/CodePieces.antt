-- The code's pieces as those of the definitions.
use Rattle.apparmor_pieces.specs.Pieces as pieces
use Rattle.apparmor_pieces.specs.declared.pieces.Piece.{Piece}
use Rattle.apparmor_pieces.specs.declared.pieces.Piece.TheVariants.{Byte, Escaped, Use}

abbrev pub piece_value : Piece → pieces.Piece
piece_value (Byte b) = pieces.byte b
piece_value (Escaped b) = pieces.escaped b
piece_value (Use name) = pieces.use_of name.now
