use Rattle.std.proofs.Common.{◌≡◌, length, sym, ap, ◌∙◌, subst, arith}
use Rattle.std.proofs.lemmas.List.{get_or_read}
use Rattle.row_tally.specs.Tally.{IsTallyOf}
use Rattle.row_tally.proofs.Directories.{is_empty_tells}
use Rattle.row_tally.proofs.tally.RowTally.is_empty.Goals as goal

pub returns : goal.returns
returns c capacity row follows =
    let t = c.self.inside in
    let same : length t.notes.items ≡ length c.args.self.now = ap length c.self.view_is in
    is_empty_tells capacity row t.notes.items c.args.directory c.index.result.now
    (subst (IsTallyOf capacity row) (sym c.self.view_is) follows)
    (get_or_read t.counts.items c.args.directory c.index.result.now (omega (arith, same)) c.index.ensures 0
    ∙ c.self.invariant.entries c.args.directory (omega (arith, same)))
