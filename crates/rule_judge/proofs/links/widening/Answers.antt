use Rattle.std.proofs.Common.{sym, ◌∙◌, true≢false}
use Rattle.rule_judge.proofs.LinkLaws.{widening_nothing, widening_something}
use Rattle.rule_judge.proofs.links.widening.Goals as goal

pub returns-then-is_empty : goal.returns-then-is_empty
returns-then-is_empty c = widening_nothing c.args.extra (c.is_empty.ensures.0 c.if-is_empty.true)

pub returns-else-is_empty : goal.returns-else-is_empty
returns-else-is_empty c = widening_something c.args.extra
    (λ nothing. true≢false (sym (c.is_empty.ensures.1 nothing) ∙ c.if-is_empty.false))
