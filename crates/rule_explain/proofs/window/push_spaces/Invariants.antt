-- `counter` spaces were added.
use Rattle.std.proofs.Common.{◌≡◌, ◌++◌, replicate}
use Rattle.std.specs.Prelude.{string_bytes}
use Rattle.rule_explain.proofs.window.push_spaces.Given as goal

abbrev pub invariant-loop : goal.invariant-loop
invariant-loop l = string_bytes l.lines ≡ string_bytes l.initial.lines ++ replicate l.counter 32
