use Rattle.std.proofs.Common.{◌≤◌, length, take, drop, Some, sym, ◌∙◌, subst, arith}
use Rattle.tree_row.specs.laws.TakenWords.{none_of}
use Rattle.open_session.specs.declared.outcome.Lack.TheVariants as lack
use Rattle.open_session.specs.Words.{ReadsOn}
use Rattle.open_session.specs.inner.ReadCells.{IsHonest}
use Rattle.open_session.proofs.WordsRead.{unread, known_stands}
use Rattle.open_session.proofs.ReadingOn.{Seen, own_more, counted_more, honest_wants, honest_refused, newest_stands}
use Rattle.open_session.proofs.cells.RowCellsCells.word.Goals as goal

pub returns-then-is_some-clause-some : goal.returns-then-is_some-clause-some
returns-then-is_some-clause-some c = known_stands c.args.self.now.words.1 c.args.place c.word-known.result c.word-known.ensures

pub read-requires : goal.read-requires
read-requires c = unread c.args.self.now.words.1 c.args.place
    (sym c.word-known.ensures ∙ none_of _ (sym c.is_some.ensures ∙ c.if-is_some.false))

pub invariant_of-self-clause-honest : goal.invariant_of-self-clause-honest
invariant_of-self-clause-honest c =
    honest_wants _ _ _ _ c.args.place c.requires (sym c.word-known.ensures ∙ none_of _ (sym c.is_some.ensures ∙ c.if-is_some.false))
    c.if-self.true

pub invariant_of-self-in-Ok-clause-counted : goal.invariant_of-self-in-Ok-clause-counted
invariant_of-self-in-Ok-clause-counted c = counted_more _ _ _ _ c.in-Ok.ensures.ok c.args.self.now.counted

pub invariant_of-self-in-Ok-clause-own : goal.invariant_of-self-in-Ok-clause-own
invariant_of-self-in-Ok-clause-own c =
    own_more c.args.self.now.row.now.1 _ _ c.args.self.now.read _ c.in-Ok.ensures.ok c.cell-word.ensures.there
    (unread c.args.self.now.words.1 c.args.place (sym c.word-known.ensures ∙ none_of _ (sym c.is_some.ensures ∙ c.if-is_some.false)))
    c.args.self.now.own

pub invariant_of-self-in-Err-clause-counted : goal.invariant_of-self-in-Err-clause-counted
invariant_of-self-in-Err-clause-counted c = subst (λ (s : Seen). c.args.self.now.read ≤ length s.1) (sym c.in-Err.ensures.refused)
    c.args.self.now.counted

pub invariant_of-self-in-Err-clause-own : goal.invariant_of-self-in-Err-clause-own
invariant_of-self-in-Err-clause-own c =
    subst (λ (s : Seen). ReadsOn c.args.self.now.row.now.1 (take c.args.self.now.read s.1) (drop c.args.self.now.read s.1))
    (sym c.in-Err.ensures.refused) c.args.self.now.own

pub invariant_of-self-in-Err-clause-honest : goal.invariant_of-self-in-Err-clause-honest
invariant_of-self-in-Err-clause-honest c =
    let few = c.args.self.now.few in
    let left = c.if-self.false in
    subst (λ (s : Seen). IsHonest s.0 s.1 c.args.self.now.most c.args.self.now.read (Some (lack.NoMemory c.args.place)))
    (sym c.in-Err.ensures.refused)
    (honest_refused _ _ _ _ c.args.place c.requires (sym c.word-known.ensures ∙ none_of _ (sym c.is_some.ensures ∙ c.if-is_some.false))
    (omega (arith, few, left)))

pub returns-in-Ok-clause-some : goal.returns-in-Ok-clause-some
returns-in-Ok-clause-some c = λ row agrees. newest_stands row _ _ _ c.in-Ok.ensures.ok agrees
