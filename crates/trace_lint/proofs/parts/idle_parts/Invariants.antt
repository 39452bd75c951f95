-- The parts of the rules before the index.
use Rattle.std.proofs.Common.{◌≡◌}
use Rattle.std.specs.List.{flat_map, range_with_len}
use Rattle.rule_profile.specs.Profile.{profile_value}
use Rattle.trace_lint.specs.Parts.{decided_by, letters_of, parts_of_rule}
use Rattle.trace_lint.proofs.parts.idle_parts.Given as goal

abbrev pub invariant-loop-index : goal.invariant-loop-index
invariant-loop-index l =
    l.parts.items ≡ flat_map (λ n. parts_of_rule n (letters_of (profile_value l.profile).rules n) (decided_by l.decided n))
    (range_with_len 1 l.index)
