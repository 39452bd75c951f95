-- The numbers so far, and those of the heads that are left, are all.
use Rattle.std.proofs.Common.{◌≡◌, ◌++◌, drop}
use Rattle.std.specs.Prelude.{option_map}
use Rattle.import_profile.specs.Imports.{fitting}
use Rattle.import_profile.proofs.choice.fitting.Given as goal

abbrev pub invariant-loop-head : goal.invariant-loop-head
invariant-loop-head l = record {
  counted : l.number ≡ l.head-index;
  gathered : l.numbers.items ++ fitting (option_map (λ name. name.now) l.fn.asked) l.number (drop l.head-index l.heads)
      ≡ fitting (option_map (λ name. name.now) l.fn.asked) 0 l.heads;
}
