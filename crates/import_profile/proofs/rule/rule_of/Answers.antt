use Rattle.std.proofs.Common.{◌∙◌, true, is_some, refl, sym, ap}
use Rattle.import_profile.specs.ImportedPaths.{imported_paths}
use Rattle.import_profile.specs.FileRules.{subject_rule}
use Rattle.import_profile.proofs.ToldShapes.{paths_of_text, some_kept, when_looked}
use Rattle.import_profile.proofs.rule.rule_of.Goals as goal

pub returns-clause-paths : goal.returns-clause-paths
returns-clause-paths c =
    let words = c.of-words.ensures in
    let target = c.is_some.ensures ∙ sym (some_kept (λ text. text.now) c.of-words.result.target) ∙ ap is_some words.target in
    when_looked c.args.chosen (subject_rule c.args.lists.now c.args.parts.now)
    (record {
      kind = c.of-words.result.kind;
      applies_to = c.of-words.result.applies_to;
      perms = c.of-words.result.perms;
      has_target =
          c.is_some.result;
      is_read = true;
      has_priority = c.of-words.result.has_priority;
    })
    c.is_restated.result c.in_ok-paths.paths.items words.kind words.applies_to words.perms target refl words.has_priority
    c.is_restated.ensures
    c.if-not-is_restated.false (paths_of_text c.args.lists.now c.args.parts.now _ c.in_ok-text.text.items c.in_ok-paths.paths.items
    words.path c.in_ok-text.ensures.text (c.in_ok-paths.ensures ∙ ap imported_paths c.deref.ensures.value))
