-- One step over a text takes its first component off.
use Rattle.std.proofs.Common.{rules}
use Rattle.names.specs.laws.PathLemmas.{step_at_part, step_at_end, left_shorter, left_slash}
use Rattle.names.proofs.paths.split_component.Goals as goal

pub returns-then-is_empty-2-clause-first : goal.returns-then-is_empty-2-clause-first
returns-then-is_empty-2-clause-first c =
    let parts = c.split_at.ensures in
    let skipped = c.skip.ensures in
    step_at_end c.args.text.now _ _ (rw skipped at parts.before) (rw skipped at parts.from) (search rules) (search rules)

pub returns-then-is_empty-2-clause-shorter : goal.returns-then-is_empty-2-clause-shorter
returns-then-is_empty-2-clause-shorter c =
    let skipped = c.skip.ensures in
    left_shorter c.args.text.now _ (rw skipped at c.split_at.ensures.from) (search rules)

pub returns-clause-first : goal.returns-clause-first
returns-clause-first c =
    let parts = c.split_at.ensures in
    let skipped = c.skip.ensures in
    step_at_part c.args.text.now _ _ (rw skipped at parts.before) (rw skipped at parts.from) (search rules)

pub returns-clause-slash : goal.returns-clause-slash
returns-clause-slash c = λ some.
    let skipped = c.skip.ensures in
    left_slash c.args.text.now _ (rw skipped at c.split_at.ensures.from) some
