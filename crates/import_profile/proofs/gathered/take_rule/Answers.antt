use Rattle.std.proofs.Common.{◌++◌, ℕ, List, ap, ◌∙◌}
use Rattle.import_spans.specs.declared.context.RuleReading.{RuleReading}
use Rattle.rule_globs.specs.Tokens.{Token}
use Rattle.apparmor_rules.specs.Restatement.{shape_of}
use Rattle.import_profile.specs.FileRules.{subject_rule, told_shape}
use Rattle.import_profile.specs.inner.GatheredRules.{restated_values}
use Rattle.import_profile.proofs.Gathers.{always}
use Rattle.import_profile.proofs.ToldShapes.{looked_at}
use Rattle.import_profile.proofs.gathered.take_rule.Goals as goal

pub returns-clause-rules : goal.returns-clause-rules
returns-clause-rules c =
    let chosen = c.args.chosen in
    let said = subject_rule c.args.lists.now c.args.item.now.parts in
    let read = c.in_ok-rule.rule in
    let reading = rw c.parts.ensures at c.in_ok-rule.ensures.reading in
    let paths = rw c.parts.ensures at c.in_ok-rule.ensures.paths in
    let same = ap (λ (place : ℕ). restated_values place chosen read.reading.shape read.paths.items) c.place.ensures
    ∙ ap (λ (reading : RuleReading). restated_values c.args.cut.now.at chosen reading.shape read.paths.items) reading
    ∙ ap (λ (paths : List (List Token)). restated_values c.args.cut.now.at chosen (told_shape chosen (shape_of said)) paths) paths
    ∙ looked_at chosen (record { place = c.args.cut.now.at; rule = said }) in
    always c.rule.result (c.in_ok-push_restated.ensures ∙ ap (λ l. c.args.rules.now.items ++ l) same)
