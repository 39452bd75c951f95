use Rattle.std.proofs.Common.{ap, ◌∙◌, inl, inr}
use Rattle.directory_tree.specs.Place.{named_place}
use Rattle.directory_tree.specs.Tree.{Tree}
use Rattle.mediation.specs.Profiles.{judge_of}
use Rattle.mediation.specs.Links.{judged_by_name}
use Rattle.path_session.specs.laws.KeeperStates.{tree_is, sees}
use Rattle.path_session.proofs.links.KeeperJudgedTreeSession.judge_names.Goals as goal

pub unreachable-requires : goal.unreachable-requires
unreachable-requires c =
    let seen = c.look.ensures.sees in
    elim (rw c.in-Torn.is at c.in-Err.ensures.fault) [
      | inl lacks ↦ lacks
      | inr none ↦ none seen.world (sees _ _ seen (c.judge_names.ensures.kept ∙ c.look.ensures.cells))
    ]

pub returns-in-Ok-clause-answer : goal.returns-in-Ok-clause-answer
returns-in-Ok-clause-answer c =
    let seen = c.look.ensures.sees in
    ap (λ (t : Tree). judged_by_name (judge_of c.args.profile.now) t c.args.old.now (named_place t c.args.new.now))
    (tree_is c.args.self.now seen)
    ∙ c.in-Ok.ensures.answer seen.world (sees _ _ seen (c.judge_names.ensures.kept ∙ c.look.ensures.cells))

pub returns-in-Refused-clause-fault : goal.returns-in-Refused-clause-fault
returns-in-Refused-clause-fault c =
    let seen = c.look.ensures.sees in
    ap (λ (t : Tree). judged_by_name (judge_of c.args.profile.now) t c.args.old.now (named_place t c.args.new.now))
    (tree_is c.args.self.now seen)
    ∙ (rw c.in-Refused.is at c.in-Err.ensures.fault) seen.world (sees _ _ seen (c.judge_names.ensures.kept ∙ c.look.ensures.cells))
