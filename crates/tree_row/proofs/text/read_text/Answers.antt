use Rattle.std.proofs.Common.{arith}
use Rattle.tree_row.proofs.Bytes.{text_taken}
use Rattle.tree_row.proofs.text.read_text.Goals as goal

pub returns-clause-ok : goal.returns-clause-ok
returns-clause-ok g c row m = text_taken row c.args.base c.args.count c.loop-k.room (let long = c.loop-k.invariant.room in omega arith)
    (λ i l. c.loop-k.invariant.text row m i (omega arith) l)
