use Rattle.std.proofs.Common.{refl, ap, ◌∙◌, sym, inl, inr}
use Rattle.directory_tree.specs.Plain.{Plain, tree_of}
use Rattle.mediation.specs.Opens.{reached}
use Rattle.plain_tree.specs.laws.Acts.{world_of}
use Rattle.justification.proofs.reach.reach_in.Goals as goal

pub unreachable-requires : goal.unreachable-requires
unreachable-requires c =
    elim (rw c.in-Err-Torn.field-0-is at c.in-Err-Torn.ensures.fault) [
      | inl lacks ↦ lacks
      | inr none ↦ none (world_of c.reach_file.new.look) refl
    ]

pub returns-in-Ok-clause-ok : goal.returns-in-Ok-clause-ok
returns-in-Ok-clause-ok c =
    ap (λ (p : Plain). reached (tree_of p) c.args.path.now c.args.ask) (sym c.in-Ok.ensures.kept) ∙ c.in-Ok.ensures.answer
    (world_of c.reach_file.new.look) refl

pub returns-in-Err-Refused-clause-err : goal.returns-in-Err-Refused-clause-err
returns-in-Err-Refused-clause-err c =
    ap (λ (p : Plain). reached (tree_of p) c.args.path.now c.args.ask) (sym c.in-Err-Refused.ensures.kept)
    ∙ (rw c.in-Err-Refused.field-0-is at c.in-Err-Refused.ensures.fault) (world_of c.reach_file.new.look) refl
