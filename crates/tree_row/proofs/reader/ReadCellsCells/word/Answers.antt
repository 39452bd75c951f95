use Rattle.std.proofs.Common.{◌∙◌, sym, arith}
use Rattle.tree_row.specs.laws.TakenWords.{none_of, own_more, new_more, honest_more}
use Rattle.tree_row.proofs.reader.ReadCellsCells.word.Goals as goal

pub invariant_of-self-in-Ok-clause-own : goal.invariant_of-self-in-Ok-clause-own
invariant_of-self-in-Ok-clause-own c = own_more _ _ _ c.args.place c.cell-word.result c.in-Ok.ensures.learns c.cell-word.ensures.word
    c.args.self.now.own

pub invariant_of-self-in-Ok-clause-new : goal.invariant_of-self-in-Ok-clause-new
invariant_of-self-in-Ok-clause-new c =
    new_more c.args.self.now.known.now.1 _ _ c.args.place c.cell-word.result c.in-Ok.ensures.learns
    (sym c.word-known.ensures ∙ none_of _ (sym c.is_some.ensures ∙ c.if-is_some.false)) c.args.self.now.new

pub invariant_of-self-in-Ok-clause-few : goal.invariant_of-self-in-Ok-clause-few
invariant_of-self-in-Ok-clause-few c =
    let less = c.if-count-self.false in let counted = c.count.ensures in let old = c.args.self.now.few in
    omega (arith, c.in-Ok.ensures.count)

pub invariant_of-self-in-Ok-clause-honest : goal.invariant_of-self-in-Ok-clause-honest
invariant_of-self-in-Ok-clause-honest c =
    honest_more c.args.self.now.known.now.0 c.args.self.now.known.now.1 c.args.self.now.read.1 c.learn.new.self.1 c.args.self.now.most
    c.args.self.now.lack (λ e. c.if-count-self.false (c.count.ensures ∙ e)) c.args.self.now.honest
