-- The table is false but at that byte.
use Rattle.glob_automaton.proofs.AlikeBytes.{that_alone}
use Rattle.glob_automaton.proofs.bytes.only.Goals as goal

pub returns : goal.returns
returns c b lt = that_alone 256 c.args.byte b c.ranges.byte.fits lt
