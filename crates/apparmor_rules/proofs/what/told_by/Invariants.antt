-- None of those before is reported by this word.
use Rattle.std.proofs.Common.{◌≡◌, drop, find}
use Rattle.std.specs.Str.{bytes_eq}
use Rattle.apparmor_rules.specs.Whats.{what_word}
use Rattle.apparmor_rules.proofs.what.told_by.Given as goal

abbrev pub invariant-loop-what : goal.invariant-loop-what
invariant-loop-what l = find (λ w. bytes_eq l.word (what_word w)) (drop l.what-index l.whats)
    ≡ find (λ w. bytes_eq l.word (what_word w)) l.whats
