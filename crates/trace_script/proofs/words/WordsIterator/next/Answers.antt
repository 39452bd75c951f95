-- One step over the line takes its first word off.
use Rattle.std.proofs.Common.{length, sym, ap, ◌∙◌, rules}
use Rattle.trace_script.specs.laws.LineWords.{step_at_word, step_at_end}
use Rattle.trace_script.proofs.words.WordsIterator.next.Goals as goal

first : goal.returns-clause-steps
first c =
    let parts = c.split_at.ensures in
    let skipped = c.skip.ensures in
    sym c.self.view_is ∙ step_at_word c.self.inside.left.now _ _ (rw skipped at parts.before) (rw skipped at parts.from) (search rules)

pub returns-then-is_empty-clause-steps : goal.returns-then-is_empty-clause-steps
returns-then-is_empty-clause-steps c =
    let parts = c.split_at.ensures in
    let skipped = c.skip.ensures in
    let ended = step_at_end c.self.inside.left.now _ _ (rw skipped at parts.before) (rw skipped at parts.from) (search rules) in
    (sym c.self.view_is ∙ ended.0, ended.1)

pub returns-clause-steps : goal.returns-clause-steps
returns-clause-steps c = first c

pub returns-clause-goes : goal.returns-clause-goes
returns-clause-goes c =
    let shorter = ap length (first c) in
    search rules
