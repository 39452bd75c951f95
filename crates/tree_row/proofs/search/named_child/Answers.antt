use Rattle.std.proofs.Common.{◌≡◌, ◌+◌, ◌-◌, subst, arith}
use Rattle.tree_row.specs.Slots.{slot_at, IsChildSlot}
use Rattle.tree_row.specs.Search.{TellsChild}
use Rattle.tree_row.proofs.search.named_child.Goals as goal

pub returns-then-branch-clause-ok : goal.returns-then-branch-clause-ok
returns-then-branch-clause-ok g c = (
  omega arith,
  omega arith,
  omega arith,
  subst (TellsChild (g.C.Cells.capacity_of (g.C.Cells.kept c.args.cells.now))
      (g.C.Cells.may c.is_child.new.cells) c.args.directory c.args.component.now
      (c.args.word - 1)) c.if-branch.true c.in_ok-is_child.ensures.ok,
)

pub returns-clause-ok : goal.returns-clause-ok
returns-clause-ok g c row w m enc s child e =
    let there = subst (IsChildSlot (g.C.Cells.capacity_of (g.C.Cells.kept c.args.cells.now) + 1)
    (slot_at row) c.args.directory c.args.component.now) (let z : s ≡ c.args.word - 1 = omega arith in z) child in
    subst (TellsChild (g.C.Cells.capacity_of (g.C.Cells.kept c.args.cells.now))
    (g.C.Cells.may c.is_child.new.cells) c.args.directory c.args.component.now
    (c.args.word - 1)) c.if-branch.false c.in_ok-is_child.ensures.ok row w m enc there.used there
