use Rattle.std.proofs.Common.{sym, ◌∙◌}
use Rattle.apparmor_text.specs.Texts.{ends, lacks}
use Rattle.apparmor_text.proofs.text.stop_at_end.Goals as goal

pub returns-then-may_end : goal.returns-then-may_end
returns-then-may_end c = ends c.args.position (sym c.may_end.ensures ∙ c.if-may_end.true)

pub returns : goal.returns
returns c = lacks c.args.position (sym c.may_end.ensures ∙ c.if-may_end.false)
