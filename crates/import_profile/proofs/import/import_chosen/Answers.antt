use Rattle.import_profile.proofs.ToldOutcomes.{chosen_same, tells_passed, tells_same}
use Rattle.import_profile.proofs.TooMany.{chosen_too_many}
use Rattle.import_profile.proofs.import.import_chosen.Goals as goal

pub returns : goal.returns
returns c =
    let lists = rw c.deref.ensures.value at c.in_ok-lists.ensures in
    let same = chosen_same c.args.strict c.args.name.now _ c.args.choice c.args.items.now c.in_ok-lists.lists c.in_ok-cut.cut
    c.in_ok-text.text.spans.items c.in_ok-text.text.changes_profile
    c.in_ok-text.text.has_hat c.in_ok-cut.rules.items c.push_added_rules.new.rules.items lists c.in_ok-cut.ensures.cut
    c.in_ok-cut.ensures.rules c.in_ok-text.ensures.spans
    c.in_ok-text.ensures.changes_profile c.in_ok-text.ensures.has_hat c.in_ok-push_added_rules.ensures in
    tells_same _ _ c.finish-2.result same c.finish-2.ensures

pub returns-in_err-cut : goal.returns-in_err-cut
returns-in_err-cut c =
    let lists = rw c.deref.ensures.value at c.in_ok-lists.ensures in
    let told = chosen_too_many c.args.strict c.args.name.now _ c.args.choice c.args.items.now c.in_ok-lists.lists c.in_err-cut.field-0.0
    lists c.in_err-cut.ensures.too_many in
    tells_passed _ c.from_residual-in_err-cut.result c.in_err-cut.field-0.0 c.from_residual-in_err-cut.ensures.1 told
