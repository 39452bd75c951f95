use Rattle.tree_row.proofs.SeenSlots.{length_differs}
use Rattle.tree_row.proofs.search.is_child.Goals as goal

pub returns-then-lengths-count-clause-ok : goal.returns-then-lengths-count-clause-ok
returns-then-lengths-count-clause-ok g c row w m enc used h =
    length_differs _ row c.args.directory c.args.slot c.args.component.now c.in_ok-lengths.lengths (c.in_ok-lengths.ensures.ok row m)
    c.if-lengths-count.true h
