-- None of the words before is this one.
use Rattle.std.proofs.Common.{◌≡◌, drop, map}
use Rattle.rule_explain.specs.FaultWords.{is_one_of}
use Rattle.rule_explain.proofs.advice.is_one_of.Given as goal

abbrev pub invariant-loop-known : goal.invariant-loop-known
invariant-loop-known l = is_one_of (map (λ known. known.now) (drop l.known-index l.words)) l.word
    ≡ is_one_of (map (λ known. known.now) l.words) l.word
