-- the words that are left, after those that were spelled out
use Rattle.std.proofs.Common.{◌≡◌, ◌++◌, drop, map}
use Rattle.trace_arguments.specs.ShortOptions.{spelled_out}
use Rattle.trace_arguments.proofs.ShortWords.{spelled_after}
use Rattle.trace_arguments.proofs.short.spelled_out.Given as goal

abbrev pub invariant-loop-word : goal.invariant-loop-word
invariant-loop-word g l =
    map (λ word. word.now) l.spelled.items ++ spelled_after l.escaped (map g.S.AsStr.text (drop l.word-index l.words))
    ≡ spelled_out (map g.S.AsStr.text l.words)
