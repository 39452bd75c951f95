use Rattle.std.proofs.Common.{ℕ, List, drop, ap, ◌∙◌}
use Rattle.mediation.specs.Opens.{reached_by_path}
use Rattle.row_rule.specs.declared.cell.Cell.{Cell}
use Rattle.open_session.specs.declared.cells.RowCells.{RowCells}
use Rattle.open_session.specs.inner.ReadCells.{end_by}
use Rattle.open_session.proofs.ReadingOn.{Seen}
use Rattle.open_session.proofs.Decisions.{decided_after, lacking_after}
use Rattle.open_session.proofs.reach.walk_on.Goals as goal

abbrev Kept : Type 0
Kept = ℕ × (ℕ × List ℕ) × ℕ × List Cell

pub returns-clause-decided : goal.returns-clause-decided
returns-clause-decided c =
    let cells = c.reach_path-end.new.look.cells in
    let one = ap (λ (z : Kept). z.0) c.reach_path-end.ensures.kept ∙ ap (λ (z : RowCells). z.words.0) c.new-look.ensures
    ∙ ap (λ (z : Seen). z.0) c.new.ensures.words in
    let same = c.ended.ensures.words ∙ ap (λ (z : RowCells). z.words) c.into_cells.ensures in
    let came = c.ended.ensures.end ∙ ap (λ (z : RowCells). end_by c.reach_path-end.result z.lack) c.into_cells.ensures in
    decided_after _ cells.words _ _ (λ t. reached_by_path t c.args.path.now) _ cells.lack _ one same came c.reach_path-end.ensures.fits
    c.reach_path-end.ensures.answer c.reach_path-end.ensures.fault

pub returns-clause-lacks : goal.returns-clause-lacks
returns-clause-lacks c =
    let cells = c.reach_path-end.new.look.cells in
    let one = ap (λ (z : Kept). z.0) c.reach_path-end.ensures.kept ∙ ap (λ (z : RowCells). z.words.0) c.new-look.ensures
    ∙ ap (λ (z : Seen). z.0) c.new.ensures.words in
    let most = ap (λ (z : Kept). z.2) c.reach_path-end.ensures.kept ∙ ap (λ (z : RowCells). z.most) c.new-look.ensures
    ∙ c.new.ensures.most in
    let old = ap (λ (z : Kept). z.3) c.reach_path-end.ensures.kept ∙ ap (λ (z : RowCells). drop z.read z.words.1) c.new-look.ensures
    ∙ ap (λ (n : ℕ). drop n c.new.result.words.1) c.new.ensures.read ∙ ap (λ (z : Seen). z.1) c.new.ensures.words in
    let same = c.ended.ensures.words ∙ ap (λ (z : RowCells). z.words) c.into_cells.ensures in
    let came = c.ended.ensures.end ∙ ap (λ (z : RowCells). end_by c.reach_path-end.result z.lack) c.into_cells.ensures in
    lacking_after _ _ cells.words _ _ cells.most cells.read _ cells.lack _ one same came most old cells.counted cells.honest
