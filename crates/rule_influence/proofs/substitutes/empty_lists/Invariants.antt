-- As many lists are empty as there were rounds.
use Rattle.std.proofs.Common.{◌≡◌, [], replicate}
use Rattle.rule_influence.specs.inner.Lists.{numbers_of}
use Rattle.rule_influence.proofs.substitutes.empty_lists.Given as goal

abbrev pub invariant-loop : goal.invariant-loop
invariant-loop l = numbers_of l.lists.items ≡ replicate l.counter []
