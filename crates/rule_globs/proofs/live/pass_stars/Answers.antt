-- The two cases of a run of stars.
use Rattle.rule_globs.specs.inner.Cursor.{pass_at}
use Rattle.rule_globs.proofs.PassLaws.{at-strict, at-free}
use Rattle.rule_globs.proofs.live.pass_stars.Goals as goal

pub returns-then-stars : goal.returns-then-stars
returns-then-stars c =
    at-strict c.args.stars.crosses_slashes c.args.stars.strict c.args.block.now (pass_at c.args.cursor c.args.live.now)
    (pass_at c.pass_one_byte-behind.result c.pass_one_byte-behind.new.live)
    (pass_at c.pass_run.result c.pass_run.new.live) c.in_component.result c.in_stars.result
    c.if-stars.true c.in_component.ensures c.pass_one_byte-behind.ensures c.in_stars.ensures c.pass_run.ensures

pub returns-else-stars : goal.returns-else-stars
returns-else-stars c =
    at-free c.args.stars.crosses_slashes c.args.stars.strict c.args.block.now (pass_at c.args.cursor c.args.live.now)
    (pass_at c.pass_run-else-stars.result c.pass_run-else-stars.new.live) c.in_stars-else-stars.result
    c.if-stars.false c.in_stars-else-stars.ensures c.pass_run-else-stars.ensures
