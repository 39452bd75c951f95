use Rattle.std.proofs.Common.{ap, sym, ◌∙◌}
use Rattle.std.specs.Prelude.{slice_get}
use Rattle.verdict_cache.specs.StructQuestions.{asked_of}
use Rattle.verdict_cache.specs.Questions.{Verdicts}
use Rattle.verdict_cache.proofs.KeptEntries.{first_is_found}
use Rattle.verdict_cache.proofs.cache.VerdictCache.look.Goals as goal

pub returns-then-is_of-clause-used : goal.returns-then-is_of-clause-used
returns-then-is_of-clause-used c =
    let there = c.in-Some.ensures ∙ ap (λ (v : Verdicts). slice_get v.entries 0) c.self.view_is in
    let asked = sym c.is_of.ensures ∙ c.if-is_of.true in
    (first_is_found (asked_of c.args.question) c.args.self.now c.in-Some.key.now c.in-Some.judged.now there asked).0

pub returns-then-is_of-clause-found : goal.returns-then-is_of-clause-found
returns-then-is_of-clause-found c =
    let there = c.in-Some.ensures ∙ ap (λ (v : Verdicts). slice_get v.entries 0) c.self.view_is in
    let asked = sym c.is_of.ensures ∙ c.if-is_of.true in
    let first = first_is_found (asked_of c.args.question) c.args.self.now c.in-Some.key.now c.in-Some.judged.now there asked in
    (c.in-Some.judged.now, first.1, c.show.ensures)
