-- The places of the rules before the index.
use Rattle.std.proofs.Common.{◌≡◌, ◌++◌, take}
use Rattle.std.specs.List.{flat_map}
use Rattle.rule_profile.specs.RuleSpans.{profile_spans}
use Rattle.trace_lint.specs.inner.Found.{or_place}
use Rattle.trace_lint.proofs.texts.Linted.put_others.Given as goal

abbrev pub invariant-loop-number : goal.invariant-loop-number
invariant-loop-number l =
    l.line.items ≡ l.initial.line.items ++ flat_map (or_place l.self.text.now (profile_spans l.self.profile.now))
    (take l.number-index l.numbers)
