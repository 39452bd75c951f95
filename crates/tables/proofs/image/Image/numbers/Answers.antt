-- The bytes from the list's start on begin with it.
use Rattle.std.proofs.Common.{◌-◌, ap, drop, length, length-drop, ◌∙◌, arith}
use Rattle.std.proofs.lemmas.List.{take_all}
use Rattle.tables.specs.Parts.{numbers_of}
use Rattle.tables.specs.inner.Places.{start_of}
use Rattle.tables.specs.inner.ReadTables.{words_at}
use Rattle.tables.proofs.Places.{numbers_there}
use Rattle.tables.proofs.image.Image.numbers.Goals as goal

pub returns : goal.returns
returns c =
    let bytes = c.self.inside.bytes.now in
    let counts = c.self.inside.counts in
    let i = c.start_of.result in
    ap (λ b. words_at b 0 c.count_of.result) (take_all (length bytes - i) (drop i bytes) (omega (arith, length-drop i bytes)))
    ∙ ap (λ i. words_at (drop i bytes) 0 c.count_of.result) c.start_of.ensures
    ∙ ap (words_at (drop (start_of counts c.args.part) bytes) 0) c.count_of.ensures
    ∙ numbers_there bytes counts c.args.part c.self.invariant
    ∙ ap (λ t. numbers_of t c.args.part) c.self.view_is
