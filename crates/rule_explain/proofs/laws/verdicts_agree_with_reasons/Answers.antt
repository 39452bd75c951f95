use Rattle.rule_globs.specs.PlainVerdict.{verdict}
use Rattle.rule_explain.proofs.VerdictLaws.{agrees}
use Rattle.rule_explain.proofs.laws.verdicts_agree_with_reasons.Goals as goal

pub returns : goal.returns
returns c = λ rules name ask. agrees rules name ask (verdict rules name ask) (c.one_verdict_is_right.ensures.some rules name ask)
