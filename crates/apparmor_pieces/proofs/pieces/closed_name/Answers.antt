use Rattle.std.proofs.Common.{arith}
use Rattle.std.proofs.lemmas.List.Sums.{prefix_len-le-length}
use Rattle.apparmor_pieces.specs.Pieces.{is_name_byte}
use Rattle.apparmor_pieces.proofs.pieces.closed_name.Goals as goal

pub split_at-requires : goal.split_at-requires
split_at-requires c = omega (arith, c.name_length-length.ensures, prefix_len-le-length is_name_byte c.args.bytes.now)
