-- What the loop has passed is zeros.
use Rattle.std.proofs.Common.{◌≡◌, ◌==◌, length}
use Rattle.std.specs.Char.{is_ascii_digit}
use Rattle.std.specs.List.{list_all}
use Rattle.rule_reader.specs.ReadWords.{leading}
use Rattle.apparmor_rules.proofs.priority.are_zeros.Given as goal

abbrev pub invariant-loop-rest : goal.invariant-loop-rest
invariant-loop-rest l = list_all (λ digit. digit == 48) (leading is_ascii_digit l.rest)
    ≡ list_all (λ digit. digit == 48) (leading is_ascii_digit l.bytes)

abbrev pub decreases-loop-rest : goal.decreases-loop-rest
decreases-loop-rest l = length l.rest
