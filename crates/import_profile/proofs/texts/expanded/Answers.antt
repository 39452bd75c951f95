use Rattle.std.proofs.Common.{◌∙◌}
use Rattle.import_profile.proofs.ExpandedTexts.{is_expanded, fault_expanded}
use Rattle.import_profile.proofs.Gathers.{then_each}
use Rattle.import_profile.proofs.texts.expanded.Goals as goal

pub returns-in-Ok-clause-text : goal.returns-in-Ok-clause-text
returns-in-Ok-clause-text c = is_expanded c.args.lists.now c.args.path.now c.in-Ok.text.items c.in-Ok.ensures.text

pub returns-in-Err-clause-text : goal.returns-in-Err-clause-text
returns-in-Err-clause-text c =
    then_each c.nothing_for.result (λ text h. h.0 ∙ fault_expanded c.args.lists.now c.args.path.now _ h.1 c.in-Err.ensures.fault)
    c.nothing_for.ensures
