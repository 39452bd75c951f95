-- The last item's last token is that of all items.
use Rattle.std.proofs.Common.{sym, ◌∙◌}
use Rattle.rule_profile.specs.Readable.{is_run}
use Rattle.rule_making.specs.laws.Ends.{ends_as_last}
use Rattle.rule_making.proofs.shapes.ends_with_run.Goals as goal

pub returns-in-len1-up : goal.returns-in-len1-up
returns-in-len1-up c = c.is_run.ensures
    ∙ sym (ends_as_last is_run c.args.items.now c.last-item.result c.in-len1-up.len_at_least c.last-item.is)
