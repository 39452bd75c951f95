use Rattle.std.proofs.Common.{ap, ◌∙◌, sym, refl}
use Rattle.std.specs.Prelude.{Ok}
use Rattle.path_session.proofs.SeenWalks.{tree_at}
use Rattle.path_session.specs.laws.KeeperStates.{tree_is}
use Rattle.path_session.proofs.keeper_opens.meets_its_history.Goals as goal

pub returns-clause-is_at : goal.returns-clause-is_at
returns-clause-is_at c =
    let seen = c.look.ensures.sees in
    tree_at _ c.args.keeper.now.history _ _ refl (seen.made ∙ ap Ok (sym (tree_is c.args.keeper.now seen)))
