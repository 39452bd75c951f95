use Rattle.std.proofs.Common.{ap, ◌∙◌, sym, refl, inl, inr}
use Rattle.std.specs.Prelude.{Ok}
use Rattle.directory_tree.specs.Tree.{Tree}
use Rattle.mediation.specs.Opens.{reached}
use Rattle.path_session.proofs.SeenWalks.{tree_at}
use Rattle.path_session.specs.laws.KeeperStates.{tree_is, sees}
use Rattle.path_session.proofs.keeper_opens.reach_here.Goals as goal

pub unreachable-requires : goal.unreachable-requires
unreachable-requires c =
    let seen = c.look.ensures.sees in
    elim (rw c.in-Torn.is at c.in-Err.ensures.fault) [
      | inl lacks ↦ lacks
      | inr none ↦ none seen.world (sees _ _ seen (c.reach_file.ensures.kept ∙ c.look.ensures.cells))
    ]

pub returns-in-Ok-clause-end : goal.returns-in-Ok-clause-end
returns-in-Ok-clause-end c =
    let seen = c.look.ensures.sees in
    ap (λ (t : Tree). reached t c.args.path.now c.args.ask) (tree_is c.args.keeper.now seen)
    ∙ c.in-Ok.ensures.answer seen.world (sees _ _ seen (c.reach_file.ensures.kept ∙ c.look.ensures.cells))

pub returns-in-Refused-clause-end : goal.returns-in-Refused-clause-end
returns-in-Refused-clause-end c =
    let seen = c.look.ensures.sees in
    ap (λ (t : Tree). reached t c.args.path.now c.args.ask) (tree_is c.args.keeper.now seen)
    ∙ (rw c.in-Refused.is at c.in-Err.ensures.fault) seen.world (sees _ _ seen (c.reach_file.ensures.kept ∙ c.look.ensures.cells))

pub returns-in-Ok-clause-is_at : goal.returns-in-Ok-clause-is_at
returns-in-Ok-clause-is_at c =
    let seen = c.look.ensures.sees in
    tree_at _ c.args.keeper.now.history _ _ refl (seen.made ∙ ap Ok (sym (tree_is c.args.keeper.now seen)))

pub returns-in-Refused-clause-is_at : goal.returns-in-Refused-clause-is_at
returns-in-Refused-clause-is_at c =
    let seen = c.look.ensures.sees in
    tree_at _ c.args.keeper.now.history _ _ refl (seen.made ∙ ap Ok (sym (tree_is c.args.keeper.now seen)))
