-- The rules that were yielded, each of which can be read.
use Rattle.std.proofs.Common.{◌≡◌, map, IsTrue}
use Rattle.std.specs.List.{list_all}
use Rattle.rule_profile.specs.Readable.{is_rule}
use Rattle.rule_profile.specs.Rules.{rule_value}
use Rattle.rule_profile.specs.RuleSpans.{rule_span}
use Rattle.import_profile.specs.Imports.{origin_of}
use Rattle.import_profile.proofs.import.rules_of.Given as goal

abbrev pub invariant-loop-rule : goal.invariant-loop-rule
invariant-loop-rule l = record {
  values : map rule_value l.rules.items ≡ map (λ r. r.value) l.yielded;
  origins : map rule_span l.rules.items ≡ map origin_of l.yielded;
  readable : IsTrue (list_all is_rule (map rule_value l.rules.items));
}
