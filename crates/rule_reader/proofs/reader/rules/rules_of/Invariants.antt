-- The rules so far, and what is still read, are the rules of the profile.
use Rattle.std.proofs.Common.{◌≡◌, ◌-◌, ◌≤◌, ◌++◌, length, map}
use Rattle.rule_profile.specs.Profile.{rule_value}
use Rattle.rule_reader.specs.ReadText.{rules_at}
use Rattle.rule_profile.specs.RuleSpans.{rule_span}
use Rattle.rule_reader.specs.Spans.{spans_at}
use Rattle.rule_reader.proofs.ReadLoops.{with_front}
use Rattle.rule_reader.proofs.reader.rules.rules_of.Given as goal

abbrev pub invariant-loop-more : goal.invariant-loop-more
invariant-loop-more l = record {
  few : length l.rules.items ≤ 1024;
  so_far : with_front (map rule_value l.rules.items) (rules_at (1024 - length l.rules.items) l.rest) ≡ rules_at 1024 l.bytes;
  spans : map rule_span l.rules.items ++ spans_at l.len (1024 - length l.rules.items) l.rest ≡ spans_at l.len 1024 l.bytes;
}

abbrev pub decreases-loop-more : goal.decreases-loop-more
decreases-loop-more l = 1024 - length l.rules.items
