use Rattle.std.proofs.Common.{ℕ, suc, ◌≡◌, List, [], ◌∷◌, reverse, sym, ap, ◌∙◌, subst}
use Rattle.std.proofs.lemmas.List.{reverse-append}
use Rattle.row_rule.specs.declared.cell.Cell.{Cell}
use Rattle.open_session.specs.Words.{IsUnread}
use Rattle.open_session.specs.inner.WordMaps.{AreKept}
use Rattle.open_session.proofs.WordsRead.{none_read, told_more, one_more}
use Rattle.open_session.proofs.words.WalkWords.read.Goals as goal

pub invariant_of-self-2 : goal.invariant_of-self-2
invariant_of-self-2 c =
    let free = subst (λ (z : ℕ × List Cell). IsUnread z.1 c.args.cell.place) (sym c.self.view_is) c.requires in
    let reads = reverse c.self.inside.reads.events in
    let newest : reverse c.and_one-self-inside.result.events ≡ c.args.cell ∷ reads = ap reverse c.and_one-self-inside.ensures
    ∙ reverse-append c.self.inside.reads.events (c.args.cell ∷ []) in
    let none = c.in_ok-insert.ensures.old ∙ c.self.invariant.told c.args.cell.place ∙ none_read reads c.args.cell.place free in
    subst (AreKept c.self.inside.capacity c.insert.new.self.entries) (sym newest) record {
      small = c.self.invariant.small;
      told = told_more _ _ reads c.args.cell c.in_ok-insert.ensures.updates.0 c.self.invariant.told;
      counted = one_more _ _ c.in_ok-insert.field-0 none c.in_ok-insert.ensures.len ∙ ap suc c.self.invariant.counted;
    }
