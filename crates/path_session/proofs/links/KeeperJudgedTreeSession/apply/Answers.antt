use Rattle.path_session.specs.laws.KeeperStates.{accepted_where_ok, refused_where_err}
use Rattle.path_session.proofs.links.KeeperJudgedTreeSession.apply.Goals as goal

pub returns-clause-ok : goal.returns-clause-ok
returns-clause-ok c = accepted_where_ok c.args.self.now c.look.ensures.sees c.args.change.now c.look.result.now.cells
    c.look.ensures.cells c.apply.new.self c.apply.result c.apply.ensures.ok

pub returns-clause-err : goal.returns-clause-err
returns-clause-err c = refused_where_err c.args.self.now c.look.ensures.sees c.args.change.now c.look.result.now.cells
    c.look.ensures.cells c.apply.new.self c.apply.result c.apply.ensures.same c.apply.ensures.err
