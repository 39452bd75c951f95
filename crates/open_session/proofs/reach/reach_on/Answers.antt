use Rattle.std.proofs.Common.{sym, ◌∙◌}
use Rattle.mediation.specs.Opens.{reached, reached_by_path}
use Rattle.open_session.proofs.Decisions.{reached_is, decided_whole}
use Rattle.open_session.proofs.reach.reach_on.Goals as goal

pub returns-in-Ok-clause-decided : goal.returns-in-Ok-clause-decided
returns-in-Ok-clause-decided c =
    let same = reached_is c.args.path.now c.in-Ok.path c.args.ask (sym c.can_be_asked.ensures ∙ c.if-not-can_be_asked.false)
    c.in-Ok.ensures.path.0 c.in-Ok.ensures.path.1 in
    decided_whole _ _ _ (λ t. reached_by_path t c.in-Ok.path) (λ t. reached t c.args.path.now c.args.ask) c.walk_on.result.end same
    c.walk_on.ensures.decided
