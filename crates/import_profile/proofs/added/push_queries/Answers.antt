use Rattle.import_profile.proofs.Gathers.{queried, then_so}
use Rattle.import_profile.proofs.added.push_queries.Goals as goal

pub returns : goal.returns
returns c =
    then_so c.push_added-2.result
    (λ e. queried c.args.chosen c.args.place c.with.result c.with-2.result c.args.rules.now.items c.push_added.new.rules.items
    c.push_added-2.new.rules.items c.with.ensures c.with-2.ensures c.in_ok-push_added.ensures e)
    c.push_added-2.ensures
