-- the letters that are left, after those that were read
use Rattle.std.proofs.Common.{◌≡◌, ◌++◌, drop, map, option_map}
use Rattle.trace_arguments.specs.ShortOptions.{options_of}
use Rattle.trace_arguments.proofs.short.options_of.Given as goal

abbrev pub invariant-loop-letter : goal.invariant-loop-letter
invariant-loop-letter l =
    option_map (λ others. map (λ option. option.now) l.options.items ++ others) (options_of (drop l.letter-index l.letters))
    ≡ options_of l.letters
