use Rattle.path_session.specs.laws.KeeperStates.{would_where_ok, would_not_where_err}
use Rattle.path_session.proofs.links.KeeperJudgedTreeSession.test.Goals as goal

pub returns-clause-ok : goal.returns-clause-ok
returns-clause-ok c = would_where_ok c.args.self.now c.look.ensures.sees c.args.change.now c.look.result.now.cells c.look.ensures.cells
    c.test.result c.test.ensures.ok

pub returns-clause-err : goal.returns-clause-err
returns-clause-err c = would_not_where_err c.args.self.now c.look.ensures.sees c.args.change.now c.look.result.now.cells
    c.look.ensures.cells c.test.result c.test.ensures.err
