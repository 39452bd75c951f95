use Rattle.std.proofs.Common.{ℕ, ◌∙◌, ◌<◌, List, length, get_or, ap, subst}
use Rattle.row_rule.specs.declared.cell.Cell.{Cell}
use Rattle.row_rule.specs.declared.view.KeeperView.{KeeperView}
use Rattle.row_keeper.proofs.KeeperSteps.{view_set}
use Rattle.row_keeper.proofs.keeper.SteppedKeeper.set.Goals as goal

pub returns-clause-ok : goal.returns-clause-ok
returns-clause-ok c =
    let i = c.self.inside in
    let cell = c.in-Some-get.cell.now in
    let (found, is, one, (within, each), more) = c.in-Some-get.ensures.lookup in
    let items = c.deref.ensures.value in
    rw c.set.ensures
    (view_set i.look.cells.1 i.history.events i.opened c.in-Some.opened i.set cell c.args.self.now.1 c.in-Some.is
    (subst (λ (cells : List Cell). i.set < length cells) items within) (is ∙ ap (λ (cells : List Cell). get_or cells i.set cell) items)
    (ap (λ (v : ℕ × KeeperView). v.1) c.self.view_is))
