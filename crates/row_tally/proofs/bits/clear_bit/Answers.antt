use Rattle.row_tally.proofs.WordBits.{clear_here, clear_others}
use Rattle.row_tally.proofs.bits.clear_bit.Goals as goal

pub returns-clause-here : goal.returns-clause-here
returns-clause-here c = clear_here c.args.words.now c.args.number c.requires

pub returns-clause-others : goal.returns-clause-others
returns-clause-others c = clear_others c.args.words.now c.args.number c.requires
