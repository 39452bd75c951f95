use Rattle.std.proofs.Common.{◌∙◌, ⊎_elim, sym, true≢false, arith}
use Rattle.std.proofs.lemmas.Bool.{cases_lt}
use Rattle.table_image.proofs.TakenCells.{free_behind, below}
use Rattle.table_image.proofs.taken.Taken.place.Goals as goal

pub least_base-requires-clause-from : goal.least_base-requires-clause-from
least_base-requires-clause-from c = ⊎_elim
    (λ lt. absurd (true≢false (sym (c.requires.start c.args.limit lt) ∙ free_behind c.args.self.now c.args.bytes.now
    c.args.limit c.requires.free)))
    (λ le. omega (arith, le, c.requires.small))
    (cases_lt c.args.limit c.args.start)

pub returns-clause-low : goal.returns-clause-low
returns-clause-low c = ⊎_elim
    (λ lt. absurd (true≢false
    (sym (below c.args.self.now c.args.bytes.now c.args.start c.least_base.result c.requires.start c.least_base.ensures.least
    c.args.limit lt)
    ∙ free_behind c.args.self.now c.args.bytes.now c.args.limit c.requires.free)))
    (λ le. le)
    (cases_lt c.args.limit c.least_base.result)

pub returns-clause-least : goal.returns-clause-least
returns-clause-least c x lt = below c.args.self.now c.args.bytes.now c.args.start c.least_base.result c.requires.start
    c.least_base.ensures.least x lt
