use Rattle.std.proofs.Common.{◌++◌, List, sym, ap, ◌∙◌}
use Rattle.rule_globs.specs.Tokens.{Token}
use Rattle.apparmor_rules.specs.Restatement.{shape_of}
use Rattle.import_profile.specs.AddedRules.{added_at, added_rule}
use Rattle.import_profile.specs.inner.GatheredRules.{restated_values}
use Rattle.import_profile.proofs.Gathers.{restated_by_shape, then_so}
use Rattle.import_profile.proofs.added.push_added.Goals as goal

pub returns : goal.returns
returns c =
    let shape = shape_of (added_rule c.args.perms c.args.path.now) in
    let same = ap (λ (paths : List (List Token)). restated_values c.args.place c.args.chosen shape paths) c.in_ok-imported_paths.ensures
    ∙ sym (restated_by_shape c.args.chosen (added_at c.args.place c.args.perms c.args.path.now)) in
    then_so c.push_restated.result (λ e. e ∙ ap (λ l. c.args.rules.now.items ++ l) same) c.push_restated.ensures
