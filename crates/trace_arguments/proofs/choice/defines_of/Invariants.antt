-- the texts that are left, after those that were read
use Rattle.std.proofs.Common.{◌≡◌, ◌++◌, drop, map, option_map}
use Rattle.trace_arguments.specs.Choices.{defines_of}
use Rattle.trace_arguments.specs.Values.{define_value}
use Rattle.trace_arguments.proofs.choice.defines_of.Given as goal

abbrev pub invariant-loop-text : goal.invariant-loop-text
invariant-loop-text l =
    option_map (λ others. map define_value l.defines.items ++ others) (defines_of (map (λ text. text.now) (drop l.text-index l.texts)))
    ≡ defines_of (map (λ text. text.now) l.texts)
