use Rattle.script_notes.proofs.FirstLine.{cut_at_end, cut_in_text}
use Rattle.script_notes.proofs.notes.first_line.Goals as goal

pub returns-in-empty-clause-lines : goal.returns-in-empty-clause-lines
returns-in-empty-clause-lines c =
    cut_at_end c.args.text.now c.split_at.result.0.now c.split_at.result.1.now c.requires c.split_at.ensures.before
    c.split_at.ensures.from c.in-empty.len_below

pub returns-in-len1-up-clause-lines : goal.returns-in-len1-up-clause-lines
returns-in-len1-up-clause-lines c =
    cut_in_text c.args.text.now c.split_at.result.0.now c.split_at.result.1.now c.requires c.split_at.ensures.before
    c.split_at.ensures.from
