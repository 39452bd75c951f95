-- A path for each alternative, where no slash goes before the group.
use Rattle.std.proofs.Common.{sym, ap, ◌∙◌}
use Rattle.std.proofs.lemmas.Result.{IfOk-weaker}
use Rattle.rule_globs.specs.Tokens.{tokens_of}
use Rattle.rule_making.specs.inner.Readable.{all_readable}
use Rattle.rule_making.proofs.GroupLaws.{split_leads}
use Rattle.rule_making.proofs.leads.group_paths.Goals as goal

pub returns-then-can_be_split : goal.returns-then-can_be_split
returns-then-can_be_split c =
    IfOk-weaker c.split.result _ _
    (λ paths e. e ∙ ap all_readable (split_leads c.args.alternatives.now (tokens_of c.args.follow.now)
    (sym c.all_give_slash.ensures ∙ c.if-all_give_slash.false) (sym c.can_be_split.ensures ∙ c.if-can_be_split.true)))
    c.split.ensures
