-- Some name is matched, or none is.
use Rattle.std.proofs.Common.{Some, refl, sym, ◌∙◌, true≢false}
use Rattle.question_answers.proofs.search.find.Goals as goal

pub returns-in_ok-witnesses : goal.returns-in_ok-witnesses
returns-in_ok-witnesses c path second third =
    ((c.in_ok-some_name.ensures (Some path) third refl).0 c.if-branch.true, c.in_ok-witnesses.ensures path second third)

pub returns-else-branch : goal.returns-else-branch
returns-else-branch c path second third name taken =
    true≢false (sym ((c.in_ok-some_name.ensures (Some path) third refl).1 (name, taken)) ∙ c.if-branch.false)
