use Rattle.rule_globs.specs.PlainVerdict.{verdict}
use Rattle.trace_names.specs.Choices.{is_allowed}
use Rattle.trace_names.proofs.Selections.{all_together, each_passes, none_of_both}
use Rattle.trace_names.proofs.laws.names_are_allowed_or_not.Goals as goal

pub returns-clause-together : goal.returns-clause-together
returns-clause-together c rules ask names = all_together (λ name. is_allowed (verdict rules name ask)) names

pub returns-clause-apart : goal.returns-clause-apart
returns-clause-apart c rules ask names = none_of_both (λ name. is_allowed (verdict rules name ask)) names

pub returns-clause-each : goal.returns-clause-each
returns-clause-each c rules ask names = each_passes names
