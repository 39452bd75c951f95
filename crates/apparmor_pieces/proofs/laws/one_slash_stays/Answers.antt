use Rattle.apparmor_pieces.proofs.SlashLaws.{slashes_stay}
use Rattle.apparmor_pieces.proofs.laws.one_slash_stays.Goals as goal

pub returns : goal.returns
returns c = slashes_stay
