-- The representatives before the index are passed.
use Rattle.std.proofs.Common.{◌≡◌, List, Option}
use Rattle.rule_globs.specs.Tokens.{Token}
use Rattle.question_answers.specs.Below.{is_given, rules_below}
use Rattle.question_answers.specs.LeastNames.{listed}
use Rattle.question_answers.proofs.Scan.{ArePassed}
use Rattle.question_answers.proofs.pass.least_by_causes.Given as goal

abbrev pub invariant-loop-index : goal.invariant-loop-index
invariant-loop-index l =
    (below : Option (List Token)) → l.comparison.third ≡ rules_below below → l.restricted ≡ is_given below →
    ArePassed below l.comparison l.fn.wanted l.ask l.index l.seen.keys (listed l.names.items)
