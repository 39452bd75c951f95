-- None of those before is at the front.
use Rattle.std.proofs.Common.{◌≡◌, drop, map}
use Rattle.apparmor_words.specs.Conditions.{begins_with_one_of}
use Rattle.apparmor_words.proofs.condition.begins_with_one_of.Given as goal

abbrev pub invariant-loop-front : goal.invariant-loop-front
invariant-loop-front l = begins_with_one_of (map (λ front. front.now) (drop l.front-index l.fronts)) l.word
    ≡ begins_with_one_of (map (λ front. front.now) l.fronts) l.word
