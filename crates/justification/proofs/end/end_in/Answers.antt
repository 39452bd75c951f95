use Rattle.std.proofs.Common.{◌≡◌, refl, ap, ◌∙◌, sym, inl, inr, take, arith}
use Rattle.std.specs.Prelude.{Ok, Err}
use Rattle.directory_tree.specs.Plain.{Plain, tree_of}
use Rattle.mediation.specs.Opens.{reached}
use Rattle.plain_tree.specs.laws.Acts.{world_of}
use Rattle.justification.proofs.end.end_in.Goals as goal

pub unreachable-requires : goal.unreachable-requires
unreachable-requires c =
    elim (rw c.in-Err-Torn.field-0-is at c.in-Err-Torn.ensures.fault) [
      | inl lacks ↦ lacks
      | inr none ↦ none (world_of c.reach_file.new.look) refl
    ]

pub returns-in-Ok-from_slice-clause-end : goal.returns-in-Ok-from_slice-clause-end
returns-in-Ok-from_slice-clause-end c =
    let name : take c.in-Ok.file.name_length c.reach_file.new.room ≡ c.in-Ok-from_slice.name.items =
    grind (arith, c.in-Ok-from_slice.ensures.items) in
    ap (λ (p : Plain). reached (tree_of p) c.args.path.now c.args.ask) (sym c.in-Ok.ensures.kept) ∙ c.in-Ok.ensures.answer
    (world_of c.reach_file.new.look) refl
    ∙ ap (λ bytes. Ok (record { name = bytes; node = c.in-Ok.file.node })) name

pub returns-in-Err-Refused-clause-end : goal.returns-in-Err-Refused-clause-end
returns-in-Err-Refused-clause-end c =
    ap (λ (p : Plain). reached (tree_of p) c.args.path.now c.args.ask) (sym c.in-Err-Refused.ensures.kept)
    ∙ (rw c.in-Err-Refused.field-0-is at c.in-Err-Refused.ensures.fault) (world_of c.reach_file.new.look) refl
    ∙ ap Err (sym c.in-Err-Refused.errno-is)
