use Rattle.std.proofs.Common.{refl, ap, ◌∙◌, sym, inl, inr}
use Rattle.directory_tree.specs.Place.{named_place}
use Rattle.directory_tree.specs.Plain.{Plain, tree_of}
use Rattle.mediation.specs.Profiles.{judge_of}
use Rattle.mediation.specs.Links.{judged_by_name}
use Rattle.script_bench.proofs.OneWorld.{one_world}
use Rattle.script_bench.proofs.plain.PlainTreeJudgedTreePlainBench.judge_names.Goals as goal

pub unreachable-requires : goal.unreachable-requires
unreachable-requires c =
    elim (rw c.in-Torn.is at c.in-Err.ensures.fault) [
      | inl lacks ↦ lacks
      | inr none ↦ none (one_world c.plain_trees_are_well_formed.ensures c.judge_names.new.look) refl
    ]

pub returns-in-Ok-clause-answer : goal.returns-in-Ok-clause-answer
returns-in-Ok-clause-answer c =
    ap (λ (p : Plain). judged_by_name (judge_of c.args.profile.now) (tree_of p) c.args.old.now (named_place (tree_of p) c.args.new.now))
    (sym c.in-Ok.ensures.kept)
    ∙ c.in-Ok.ensures.answer (one_world c.plain_trees_are_well_formed.ensures c.judge_names.new.look) refl

pub returns-in-Refused-clause-fault : goal.returns-in-Refused-clause-fault
returns-in-Refused-clause-fault c =
    ap (λ (p : Plain). judged_by_name (judge_of c.args.profile.now) (tree_of p) c.args.old.now (named_place (tree_of p) c.args.new.now))
    (sym c.in-Err.ensures.kept)
    ∙ (rw c.in-Refused.is at c.in-Err.ensures.fault) (one_world c.plain_trees_are_well_formed.ensures c.judge_names.new.look) refl
