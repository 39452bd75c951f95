use Rattle.row_tally.proofs.WordBits.{set_here, set_others}
use Rattle.row_tally.proofs.bits.set_bit.Goals as goal

pub returns-clause-here : goal.returns-clause-here
returns-clause-here c = set_here c.args.words.now c.args.number c.requires

pub returns-clause-others : goal.returns-clause-others
returns-clause-others c = set_others c.args.words.now c.args.number c.requires
