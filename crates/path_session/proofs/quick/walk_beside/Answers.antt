use Rattle.std.proofs.Common.{ap, ◌∙◌, sym, inl, inr}
use Rattle.row_rule.specs.declared.view.WalkerView.{WalkerView}
use Rattle.path_session.proofs.SeenWalks.{tree_at, look_sees}
use Rattle.path_session.proofs.quick.walk_beside.Goals.{in-Ok-reached, in-Err-reached+in-Refused}
use Rattle.path_session.proofs.quick.walk_beside.Goals as goal

pub unreachable-requires : goal.unreachable-requires
unreachable-requires c =
    let (last, noted, version, seen, saw) = rw c.in-Ok.is at c.end-walker.ensures.ok in
    elim (rw c.in-Torn.is at c.in-Err-reached.ensures.fault) [
      | inl lacks ↦ lacks
      | inr none ↦ none saw.world (look_sees _ _ _ c.into_cells.ensures saw)
    ]

pub returns-clause-ok : goal.returns-clause-ok
returns-clause-ok c =
    let (last, noted, version, seen, saw) = rw c.in-Ok.is at c.end-walker.ensures.ok in
    let same = ap (λ (w : WalkerView). w.noted) c.end-walker.ensures.ended in
    let half = same ∙ noted in
    let at = tree_at _ _ _ _ version saw.made in
    elim c.match-reached.branch [
      | in-Ok-reached w ↦ record {
        version_is = version;
        half = half;
        same_count = last ∙ sym same;
        tree = saw.world.tree;
        is_at = at;
        end = rw w.file-is ((rw w.in-Ok-reached.is at c.reach_file-reached.ensures.answer) saw.world
            (look_sees _ _ _ c.into_cells.ensures saw));
      }
      | in-Err-reached+in-Refused w ↦ record {
        version_is = version;
        half = half;
        same_count = last ∙ sym same;
        tree = saw.world.tree;
        is_at = at;
        end = rw w.file-is ((rw w.in-Refused.is at w.in-Err-reached.ensures.fault) saw.world (look_sees _ _ _ c.into_cells.ensures saw));
      }
    ]
